-- What is answered to the request for a copy, by its parts.
use Rattle.std.proofs.Common.{◌≡◌, ◌≢◌, ℕ, List, true, Option, Some, None, Result, Ok, Err, inl, inr, ⊎_elim, refl, sym, ap, ◌∙◌, subst}
use Rattle.std.specs.Prelude.{◌⊎◌, IfErr, IfSome}
use Rattle.hq_copy_definition.specs.Copied.{Copied}
use Rattle.hq_copy_definition.specs.Metadata.{copied_meta}
use Rattle.hq_copy_definition.specs.Refusals.{or_else}
use Rattle.hq_copy_definition.specs.Sources.{Source, sources}
use Rattle.hq_copy_definition.specs.Tables.{copied_tables}
use Rattle.hq_copy_definition.specs.declared.refusal.CopyRefusal.{CopyRefusal}
use Rattle.hq_copy_definition.specs.declared.refusal.CopyRefusal.TheVariants as refusal
use Rattle.hq_laws_copy.specs.Fits.Laws.{CatalogFits}
use Rattle.hq_laws_copy.specs.Rows.Laws.{RowsFit}
use Rattle.hq_model.specs.Catalog.{is_catalog}
use Rattle.hq_model.specs.Database.{Row, is_database}
use Rattle.hq_model.specs.Fits.{fits}
use Rattle.hq_model.specs.Grants.{grants_of}
use Rattle.hq_model.specs.Meta.{MetaTree}
use Rattle.hq_model.specs.Permission.{Permission, role_of}
use Rattle.hq_model.specs.Schema.{Schema, schema_of}
use Rattle.hq_model.specs.View.{view}
use Rattle.hq_model.specs.declared.role.Role.{Role}
use Rattle.hq_model.specs.declared.session.Session.{Session}
use Rattle.hq_model.specs.declared.table.Table.{Table}
use Rattle.hq_copy.specs.Direct.{lists_due}
use Rattle.hq_copy.specs.Files.{files_of}
use Rattle.hq_copy.specs.Granted.{granted_due}
use Rattle.hq_copy.specs.Redacting.{Redacts, TellsRise, copy_due, described_refusal, refusal_in}
use Rattle.hq_copy.specs.declared.redacted.Redacted.{Redacted}
use Rattle.hq_copy.proofs.Causes.{filters_are}
use Rattle.hq_copy.proofs.Made.{made_given, made_refused, planned_refused}
use Rattle.hq_copy.proofs.Planned.{IsTold}
use Rattle.hq_copy.proofs.Unfailed.{Unfailed, described_unfailed, either_unfailed, files_unfailed, filters_unfailed}

-- a refusal that is due is answered
due_answers : (due : Result Copied CopyRefusal) (e : CopyRefusal) → due ≡ Err e → Redacts due (Err e)
due_answers due refusal.Memory h = tt
due_answers due (refusal.Failed before after) h = tt
due_answers due (refusal.NoVariable name) h = h
due_answers due (refusal.BadVariable name want) h = h
due_answers due (refusal.NameTaken name) h = h
due_answers due (refusal.MaskedKey name) h = h
due_answers due (refusal.TooWide name) h = h
due_answers due (refusal.NotWritable name k) h = h

-- want of memory, or the due one
pub told_answers : (due : Result Copied CopyRefusal) (e : CopyRefusal) → (e ≡ refusal.Memory) ⊎ (due ≡ Err e) → Redacts due (Err e)
told_answers due e h = ⊎_elim (λ want. subst (λ x. Redacts due (Err x)) (sym want) tt) (λ is. due_answers due e is) h

-- what is handed on
pub passed_told : (o : Option (List (List Row))) (due : List (List Row) → Result Copied CopyRefusal) (x : Result Redacted CopyRefusal) (e : CopyRefusal) → x ≡ Err e
    → IfSome o (λ d. Redacts (due d) (Err e)) → IfSome o (λ d. Redacts (due d) x)
passed_told o due x e is h = subst (λ y. IfSome o (λ d. Redacts (due d) y)) (sym is) h

pub passed_answer : (due : Result Copied CopyRefusal) (x : Result Redacted CopyRefusal) (e : CopyRefusal) → x ≡ Err e → Redacts due (Err e) → Redacts due x
passed_answer due x e is h = subst (Redacts due) (sym is) h

pub passed_tells : (before now : ℕ) (x : Result Redacted CopyRefusal) (e : CopyRefusal) → x ≡ Err e → TellsRise before now e → IfErr x (TellsRise before now)
passed_tells before now x e is h = subst (λ y. IfErr y (TellsRise before now)) (sym is) h

pub passed_unfailed : (x : Result Redacted CopyRefusal) (e : CopyRefusal) → x ≡ Err e → ((b a : ℕ) → e ≢ refusal.Failed b a) → IfErr x (λ y. (b a : ℕ) → y ≢ refusal.Failed b a)
passed_unfailed x e is h = subst (λ y. IfErr y (λ z. (b a : ℕ) → z ≢ refusal.Failed b a)) (sym is) h

-- want of memory is no failure
pub want_unfailed : (x : Result Redacted CopyRefusal) (e : CopyRefusal) → x ≡ Err e → e ≡ refusal.Memory → IfErr x (λ y. (b a : ℕ) → y ≢ refusal.Failed b a)
want_unfailed x e is want = passed_unfailed x e is (λ b a f. cc)

pub want_tells : (before now : ℕ) (x : Result Redacted CopyRefusal) (e : CopyRefusal) → x ≡ Err e → e ≡ refusal.Memory → IfErr x (TellsRise before now)
want_tells before now x e is want = subst (λ y. IfErr y (TellsRise before now)) (sym (is ∙ ap Err want)) tt

pub want_answer : (due : Result Copied CopyRefusal) (x : Result Redacted CopyRefusal) (e : CopyRefusal) → x ≡ Err e → e ≡ refusal.Memory → Redacts due x
want_answer due x e is want = subst (Redacts due) (sym (is ∙ ap Err want)) tt

-- want of memory is told whatever is due
pub want_told : (o : Option (List (List Row))) (due : List (List Row) → Result Copied CopyRefusal) (x : Result Redacted CopyRefusal) (e : CopyRefusal) → x ≡ Err e → e ≡ refusal.Memory
    → IfSome o (λ d. Redacts (due d) x)
want_told None due x e is want = tt
want_told (Some d) due x e is want = want_answer (due d) x e is want

-- a refusal that is no failure tells of no rise
unfailed_tells : (before now : ℕ) (e : CopyRefusal) → ((b a : ℕ) → e ≢ refusal.Failed b a) → TellsRise before now e
unfailed_tells before now refusal.Memory h = tt
unfailed_tells before now (refusal.Failed b a) h = absurd (h b a refl)
unfailed_tells before now (refusal.NoVariable name) h = tt
unfailed_tells before now (refusal.BadVariable name want) h = tt
unfailed_tells before now (refusal.NameTaken name) h = tt
unfailed_tells before now (refusal.MaskedKey name) h = tt
unfailed_tells before now (refusal.TooWide name) h = tt
unfailed_tells before now (refusal.NotWritable name k) h = tt

-- whatever is answered
pub all_unfailed : (before now : ℕ) (x : Result Redacted CopyRefusal) → IfErr x (λ e. (b a : ℕ) → e ≢ refusal.Failed b a) → IfErr x (TellsRise before now)
all_unfailed before now (Ok r) h = tt
all_unfailed before now (Err e) h = unfailed_tells before now e h

-- nor does one that is told
told_unfailed : (due : Option CopyRefusal) (e : CopyRefusal) → Unfailed due → IsTold due e → (b a : ℕ) → e ≢ refusal.Failed b a
told_unfailed due e none h b a f = ⊎_elim (λ want. cc) (λ is. none e b a is f) h

module _ (tables : List Table) (m : MetaTree) (session : Session) where
  abbrev s : Schema
  s = schema_of tables m

  -- a failure is an answer, whatever is due
  pub failure_answers : (before after : ℕ) (o : Option (List (List Row))) → IfSome o (λ d. Redacts (copy_due tables m session d) (Err (refusal.Failed before after)))
  failure_answers before after None = tt
  failure_answers before after (Some d) = tt

  -- ---- before rows are read

  module _ (r : Role) (is : r ≡ role_of session.role) (e : CopyRefusal)
      (told : IsTold (or_else (refusal_in (granted_due s session.vars (sources r m))) (described_refusal r m s)) e) where
    planned_due : (d : List (List Row)) → (e ≡ refusal.Memory) ⊎ (copy_due tables m session d ≡ Err e)
    planned_due d =
        ⊎_elim (λ want. inl want)
        (λ t. inr (planned_refused tables m session d e
        (ap (λ x. or_else (refusal_in (granted_due s session.vars (sources x m))) (described_refusal x m s)) (sym is) ∙ t))) told

    -- what refuses the plan is answered
    pub planned_answers : (o : Option (List (List Row))) → IfSome o (λ d. Redacts (copy_due tables m session d) (Err e))
    planned_answers None = tt
    planned_answers (Some d) = told_answers (copy_due tables m session d) e (planned_due d)

  -- and it is no failure
  pub planned_tells : (r : Role) (before now : ℕ) (e : CopyRefusal) → IsTold (or_else (refusal_in (granted_due s session.vars (sources r m))) (described_refusal r m s)) e → TellsRise before now e
  planned_tells r before now e told =
      let filters : Unfailed (refusal_in (granted_due s session.vars (sources r m))) =
      subst Unfailed (filters_are s session.vars (sources r m)) (filters_unfailed s session.vars (sources r m)) in
      unfailed_tells before now e
      (told_unfailed _ e (either_unfailed (refusal_in (granted_due s session.vars (sources r m))) (described_refusal r m s) filters (described_unfailed r m s)) told)

  -- ---- over rows

  module _ (d : List (List Row)) (fit : fits tables m ≡ true) (r : Role) (is : r ≡ role_of session.role) (os : List Source) (seen : os ≡ sources r m)
      (ts : List Table) (mv : MetaTree) (qs : List Permission) (lists : List (List Row)) (same_tables : ts ≡ copied_tables r m s) (same_meta : mv ≡ copied_meta r m s)
      (bound : granted_due s session.vars (sources r m) ≡ Ok qs) (described : described_refusal r m s ≡ None) (same_lists : lists ≡ lists_due r m s d os qs) where
    abbrev role : Role
    role = role_of session.role

    tables_are : ts ≡ copied_tables role m s
    tables_are = same_tables ∙ ap (λ x. copied_tables x m s) is

    meta_is : mv ≡ copied_meta role m s
    meta_is = same_meta ∙ ap (λ x. copied_meta x m s) is

    bound_is : granted_due s session.vars (sources role m) ≡ Ok qs
    bound_is = ap (λ x. granted_due s session.vars (sources x m)) (sym is) ∙ bound

    described_is : described_refusal role m s ≡ None
    described_is = ap (λ x. described_refusal x m s) (sym is) ∙ described

    lists_are : lists ≡ lists_due role m s d (sources role m) qs
    lists_are = same_lists ∙ ap (λ o. lists_due r m s d o qs) seen ∙ ap (λ x. lists_due x m s d (sources x m) qs) is

    -- a file refuses the copy
    pub file_answers : (e : CopyRefusal) → IsTold (files_of ts lists) e → Redacts (copy_due tables m session d) (Err e)
    file_answers e told =
        told_answers (copy_due tables m session d) e
        (⊎_elim (λ want. inl want) (λ t. inr (made_refused tables m session d fit ts mv qs lists tables_are meta_is bound_is described_is lists_are e t)) told)

    -- none does
    pub copy_given : files_of ts lists ≡ None → copy_due tables m session d ≡ Ok (record { tables = ts; meta = mv; rows = lists })
    copy_given none = made_given tables m session d fit ts mv qs lists tables_are meta_is bound_is described_is lists_are none

    -- what is made of it is a catalog, a metadata that fits it, and rows that are valid for it
    pub copy_is_whole : ((c : Copied) → CatalogFits tables m session (view s (grants_of session tables m) d) c) → ((c : Copied) → RowsFit tables m session d c)
        → is_catalog tables ≡ true → is_database tables d ≡ true → files_of ts lists ≡ None
        → (is_catalog ts ≡ true) × (fits ts mv ≡ true) × (is_database ts lists ≡ true)
    copy_is_whole catalogs rows whole valid none =
        let c : Copied = record { tables = ts; meta = mv; rows = lists } in
        let given : copy_due tables m session d ≡ Ok c = copy_given none in
        let fitting = catalogs c whole fit given in
        (fitting.0, fitting.1, rows c fit valid given)

  -- the answer over rows is the one over the told database, which they are
  pub told_database : (o : Option (List (List Row))) (rows : List (List Row)) (x : Result Redacted CopyRefusal) → IfSome o (λ d. rows ≡ d) → Redacts (copy_due tables m session rows) x
      → IfSome o (λ d. Redacts (copy_due tables m session d) x)
  told_database None rows x t h = tt
  told_database (Some d) rows x t h = subst (λ w. Redacts (copy_due tables m session w) x) t h

-- a file that refuses a copy is no failure
pub file_unfailed : (ts : List Table) (lists : List (List Row)) (e : CopyRefusal) → IsTold (files_of ts lists) e → (before after : ℕ) → e ≢ refusal.Failed before after
file_unfailed ts lists e told before after = told_unfailed (files_of ts lists) e (files_unfailed ts lists) told before after
