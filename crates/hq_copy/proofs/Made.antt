-- What is made of a plan and of all rows is the copy, or its refusal.
use Rattle.std.proofs.Common.{◌≡◌, List, map, true, Some, None, Ok, Err, sym, ap, ap₂, ◌∙◌}
use Rattle.hq_copy_definition.specs.Copied.{Copied, copy_of, unless}
use Rattle.hq_copy_definition.specs.Metadata.{copied_meta}
use Rattle.hq_copy_definition.specs.Refusals.{copy_refusal, or_else}
use Rattle.hq_copy_definition.specs.Rows.{copied_rows, rows_of}
use Rattle.hq_copy_definition.specs.Sources.{Source, sources}
use Rattle.hq_copy_definition.specs.Tables.{copied_table, copied_tables}
use Rattle.hq_copy_definition.specs.declared.refusal.CopyRefusal.{CopyRefusal}
use Rattle.hq_model.specs.Database.{Row}
use Rattle.hq_model.specs.Fits.{fits}
use Rattle.hq_model.specs.Grants.{grants_of}
use Rattle.hq_model.specs.Meta.{MetaTree}
use Rattle.hq_model.specs.Permission.{Permission, role_of}
use Rattle.hq_model.specs.Schema.{Schema, schema_of}
use Rattle.hq_model.specs.View.{View, view, seen_in}
use Rattle.hq_model.specs.declared.role.Role.{Role}
use Rattle.hq_model.specs.declared.session.Session.{Session}
use Rattle.hq_model.specs.declared.table.Table.{Table}
use Rattle.hq_copy.specs.Direct.{lists_due}
use Rattle.hq_copy.specs.Files.{files_of}
use Rattle.hq_copy.specs.Granted.{granted_due}
use Rattle.hq_copy.specs.Redacting.{copy_due, described_refusal, refusal_in}
use Rattle.hq_copy.proofs.Bridge.{lists_are}
use Rattle.hq_copy.proofs.Causes.{causes_are, or_else_assoc}

-- copies of equal parts
same_copy : (t u : List Table) (m n : MetaTree) (d e : List (List Row)) → t ≡ u → m ≡ n → d ≡ e
    → ◌≡◌ {A = Copied} (record { tables = t; meta = m; rows = d }) (record { tables = u; meta = n; rows = e })
same_copy t u m n d e p q r =
    ap (λ (x : List Table). record { tables = x; meta = m; rows = d }) p
    ∙ ap (λ (x : MetaTree). record { tables = u; meta = x; rows = d }) q
    ∙ ap (λ (x : List (List Row)). record { tables = u; meta = n; rows = x }) r

module _ (tables : List Table) (m : MetaTree) (session : Session) (d : List (List Row)) (fit : fits tables m ≡ true) where
  abbrev role : Role
  role = role_of session.role

  abbrev s : Schema
  s = schema_of tables m

  abbrev v : View
  v = view s (grants_of session tables m) d

  abbrev os : List Source
  os = sources role m

  module _ (ts : List Table) (mv : MetaTree) (qs : List Permission) (lists : List (List Row)) (same_tables : ts ≡ copied_tables role m s) (same_meta : mv ≡ copied_meta role m s)
      (bound : granted_due s session.vars os ≡ Ok qs) (described : described_refusal role m s ≡ None) (same_lists : lists ≡ lists_due role m s d os qs) where
    same_rows : lists ≡ copied_rows role m s v
    same_rows = same_lists ∙ lists_are tables m session d fit qs bound

    -- nothing but a file refuses it
    cause_is : copy_refusal role m s session.vars (seen_in v) ≡ files_of ts lists
    cause_is =
        causes_are role m s session.vars (seen_in v)
        ∙ ap₂ (λ a b. or_else a (or_else b (files_of (map (copied_table role m s) os) (map (rows_of role m s (seen_in v)) os)))) (ap refusal_in bound) described
        ∙ sym (ap₂ (λ a b. files_of a b) same_tables same_rows)

    -- a file refuses it
    pub made_refused : (e : CopyRefusal) → files_of ts lists ≡ Some e → copy_due tables m session d ≡ Err e
    made_refused e h = ap (λ o. unless o (copy_of tables m session v)) (cause_is ∙ h)

    -- none does
    pub made_given : files_of ts lists ≡ None → copy_due tables m session d ≡ Ok (record { tables = ts; meta = mv; rows = lists })
    made_given h =
        ap (λ o. unless o (copy_of tables m session v)) (cause_is ∙ h)
        ∙ ap Ok (sym (same_copy ts (copied_tables role m s) mv (copied_meta role m s) lists (copied_rows role m s v) same_tables same_meta same_rows))

-- what is refused before rows are read
pub planned_refused : (tables : List Table) (m : MetaTree) (session : Session) (d : List (List Row)) (e : CopyRefusal)
    → or_else (refusal_in (granted_due (schema_of tables m) session.vars (sources (role_of session.role) m)))
    (described_refusal (role_of session.role) m (schema_of tables m))
    ≡ Some e
    → copy_due tables m session d ≡ Err e
planned_refused tables m session d e h =
    let role = role_of session.role in
    let s = schema_of tables m in
    let v = view s (grants_of session tables m) d in
    let os = sources role m in
    ap (λ o. unless o (copy_of tables m session v))
    (causes_are role m s session.vars (seen_in v)
    ∙ sym (or_else_assoc (refusal_in (granted_due s session.vars os)) (described_refusal role m s) (files_of (map (copied_table role m s) os) (map (rows_of role m s (seen_in v)) os)))
    ∙ ap (λ o. or_else o (files_of (map (copied_table role m s) os) (map (rows_of role m s (seen_in v)) os))) h)
