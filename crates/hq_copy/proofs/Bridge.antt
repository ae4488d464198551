-- The copy of a view is made of the permitted rows.
use Rattle.std.proofs.Common.{◌≡◌, ℕ, zero, suc, ◌+◌, List, [], ◌∷◌, map, true, false, ◌==◌, Option, Some, None, Result, Ok, Err, slice_get, refl, sym, ap, ap₂, ◌∙◌, subst, arith}
use Rattle.std.proofs.lemmas.Bool.{eqb-true}
use Rattle.std.proofs.lemmas.List.Folds.{find_at}
use Rattle.std.specs.Prelude.{filter, option_and_then, option_map, slice_index_or, unwrap_or}
use Rattle.std.specs.Result.{result_ok}
use Rattle.hq_base.specs.Due.{and_then, mapped}
use Rattle.hq_base.specs.Lists.{Each, Zip}
use Rattle.hq_copy_definition.specs.Rows.{copied_rows, rows_of}
use Rattle.hq_copy_definition.specs.Sources.{Source, sources, table_place}
use Rattle.hq_copy_definition.specs.declared.refusal.CopyRefusal.{CopyRefusal}
use Rattle.hq_copy_definition.proofs.BySource.{IsSource}
use Rattle.hq_copy_definition.proofs.Found.{stands_for}
use Rattle.hq_copy_definition.proofs.Lists.{each_at, found_passes}
use Rattle.hq_laws_copy.proofs.Views.Granted.{granted_there, kept_bound}
use Rattle.hq_laws_copy.proofs.Fits.Held.{Held, all_held}
use Rattle.hq_model.specs.Binding.{bound_permission}
use Rattle.hq_model.specs.Database.{Row}
use Rattle.hq_model.specs.Fits.{fits}
use Rattle.hq_model.specs.Grants.{Grants, grant, grant_of, grants_of, no_grant}
use Rattle.hq_model.specs.Meta.{MetaTree}
use Rattle.hq_model.specs.Permission.{Permission, permission, role_of}
use Rattle.hq_model.specs.Permitted.{by_key, permitted, permitted_under}
use Rattle.hq_model.specs.Schema.{Schema, SchemaTable, schema_of, numbered}
use Rattle.hq_model.specs.View.{View, view, seen_in}
use Rattle.hq_model.specs.declared.bind.BindRefusal.{BindRefusal}
use Rattle.hq_model.specs.declared.role.Role.{Role}
use Rattle.hq_model.specs.declared.session.Session.{Session}
use Rattle.hq_model.specs.declared.session.Var.{Var}
use Rattle.hq_model.specs.declared.table.Table.{Table}
use Rattle.hq_model.proofs.Permitting.{permission_fits}
use Rattle.hq_model.proofs.Places.{absent, present, numbered-get}
use Rattle.hq_copy.specs.Direct.{direct_lists, direct_row, lists_due, permitted_lists, rows_for}
use Rattle.hq_copy.specs.Granted.{granted_due, or_not_bound}
use Rattle.hq_copy.proofs.Rows.{rows_are, rows_over}

-- ---- permissions that are bound

abbrev pub IsBound : Schema → List Var → Source → Permission → Type 0
IsBound s vars o q = bound_permission o.permission s vars o.entry.table ≡ Ok q

-- each source with what is granted of it
pub all_bound : (s : Schema) (vars : List Var) (os : List Source) (qs : List Permission) → granted_due s vars os ≡ Ok qs → Zip (IsBound s vars) os qs
all_bound s vars [] [] e = tt
all_bound s vars [] (q ∷ qs) e = cc
all_bound s vars (o ∷ os) qs e =
    let rest : (p : Permission) → IsBound s vars o p → (r : Result (List Permission) CopyRefusal) → granted_due s vars os ≡ r → mapped (λ ps. p ∷ ps) r ≡ Ok qs → Zip (IsBound s vars) (o ∷ os) qs =
    λ p b. elim [
      | Ok ps ↦ λ f g. let is : p ∷ ps ≡ qs = cc in subst (Zip (IsBound s vars) (o ∷ os)) is (b, all_bound s vars os ps f)
      | Err x ↦ λ f g. cc
    ] in
    let go : (r : Result Permission BindRefusal) → bound_permission o.permission s vars o.entry.table ≡ r → and_then (λ p. mapped (λ ps. p ∷ ps) (granted_due s vars os)) (or_not_bound r) ≡ Ok qs
    → Zip (IsBound s vars) (o ∷ os) qs =
    elim [ Ok p ↦ λ f g. rest p f (granted_due s vars os) refl g | Err x ↦ λ f g. cc ] in
    go (bound_permission o.permission s vars o.entry.table) refl e

-- the permitted rows of the source at a place
lists_at : (s : Schema) (vars : List Var) (d : List (List Row)) (os : List Source) (qs : List Permission) (i : ℕ) (o : Source) → Zip (IsBound s vars) os qs → slice_get os i ≡ Some o
    → (q : Permission) × IsBound s vars o q × (slice_index_or (permitted_lists s d os qs) i [] ≡ permitted_under q s d o.entry.table)
lists_at s vars d [] qs i o z e = cc
lists_at s vars d (u ∷ os) [] i o z e = absurd z
lists_at s vars d (u ∷ os) (q ∷ qs) zero o z e =
    let same : u ≡ o = cc in
    (q, subst (λ w. IsBound s vars w q) same z.0, ap (λ w. permitted_under q s d w.entry.table) same)
lists_at s vars d (u ∷ os) (q ∷ qs) (suc i) o z e = lists_at s vars d os qs i o z.1 e

-- and none beyond them
lists_beyond : (s : Schema) (d : List (List Row)) (os : List Source) (qs : List Permission) (i : ℕ) → slice_get os i ≡ None → slice_index_or (permitted_lists s d os qs) i [] ≡ []
lists_beyond s d [] qs i e = refl
lists_beyond s d (u ∷ os) [] i e = refl
lists_beyond s d (u ∷ os) (q ∷ qs) zero e = cc
lists_beyond s d (u ∷ os) (q ∷ qs) (suc i) e = lists_beyond s d os qs i e

none_kept : {A : Type 0} (xs : List A) → filter (λ x. false) xs ≡ []
none_kept [] = refl
none_kept (x ∷ xs) = none_kept xs

module _ (tables : List Table) (m : MetaTree) (session : Session) (d : List (List Row)) (fit : fits tables m ≡ true) where
  abbrev role : Role
  role = role_of session.role

  abbrev s : Schema
  s = schema_of tables m

  abbrev g : Grants
  g = grants_of session tables m

  abbrev v : View
  v = view s g d

  abbrev os : List Source
  os = sources role m

  -- what is granted of a source
  granted_is : (o : Source) (q : Permission) → IsSource role m o → IsBound s session.vars o q → grant g o.entry.table ≡ q
  granted_is o q is bound =
      ap (λ p. unwrap_or p no_grant)
      (granted_there session tables m o.entry.table o.permission q (permission_fits tables m role o.entry.table fit o.permission is.seen).there is.seen bound)

  -- and of a table of which nothing is permitted
  none_granted : (t : ℕ) → permission role m t ≡ None → grant g t ≡ no_grant
  none_granted t none =
      let zeroth : 0 + t ≡ t = omega arith in
      let at : slice_get g t ≡ option_map (grant_of session m s t) (slice_get s t) = numbered-get (grant_of session m s) 0 s t ∙ ap (λ n. option_map (grant_of session m s n) (slice_get s t)) zeroth in
      let go : (o : Option SchemaTable) → slice_get s t ≡ o → slice_index_or g t None ≡ None =
      elim [
        | None ↦ λ e. absent g t None (at ∙ ap (option_map (grant_of session m s t)) e)
        | Some x ↦ λ e.
            present g t None (grant_of session m s t x) (at ∙ ap (option_map (grant_of session m s t)) e)
            ∙ ap (option_and_then (λ p. result_ok (bound_permission p s session.vars t))) none
      ] in
      ap (λ p. unwrap_or p no_grant) (go (slice_get s t) refl)

  module _ (qs : List Permission) (bound : granted_due s session.vars os ≡ Ok qs) where
    abbrev lists : List (List Row)
    lists = permitted_lists s d os qs

    zipped : Zip (IsBound s session.vars) os qs
    zipped = all_bound s session.vars os qs bound

    is_source : (i : ℕ) (o : Source) → slice_get os i ≡ Some o → IsSource role m o
    is_source i o e = (each_at (Held tables m role) os i o (all_held tables m role fit) e).is

    -- the lists have the permitted rows of each table
    pub lists_permitted : (t : ℕ) → rows_for os lists t ≡ permitted s g d t
    lists_permitted t =
        let u : ℕ = table_place os t in
        let go : (p : Option Permission) → permission role m t ≡ p → slice_index_or lists u [] ≡ permitted s g d t =
        elim [
          | Some p ↦ λ e.
              let at = stands_for role m t p e in
              let o : Source = record { entry = at.entry; permission = p } in
              let found = lists_at s session.vars d os qs u o zipped at.place in
              let granted = granted_is o found.0 (is_source u o at.place) found.1 in
              found.2 ∙ ap (λ q. permitted_under q s d at.entry.table) (sym granted) ∙ ap (permitted s g d) at.is_table
          | None ↦ λ e.
              let nothing : (w : Option Source) → slice_get os u ≡ w → slice_index_or lists u [] ≡ [] =
              elim [
                | None ↦ λ f. lists_beyond s d os qs u f
                | Some o ↦ λ f.
                    let same : o.entry.table ≡ t = eqb-true o.entry.table t (found_passes (λ w. w.entry.table == t) os o (find_at (λ w. w.entry.table == t) os ∙ f)) in
                    let seen : permission role m t ≡ Some o.permission = ap (permission role m) (sym same) ∙ (is_source u o f).seen in
                    cc
              ] in
              nothing (slice_get os u) refl ∙ sym (ap (λ q. permitted_under q s d t) (none_granted t e) ∙ none_kept (by_key s d t))
        ] in
        go (permission role m t) refl

    -- the copies of the rows of sources
    copies : (xs : List Source) (ps : List Permission) → Each (Held tables m role) xs → Zip (IsBound s session.vars) xs ps
        → direct_lists role m s d (rows_for os lists) xs ps (permitted_lists s d xs ps) ≡ map (rows_of role m s (seen_in v)) xs
    copies [] ps h z = refl
    copies (o ∷ xs) [] h z = absurd z
    copies (o ∷ xs) (q ∷ ps) h z =
        let granted = granted_is o q h.0.is z.0 in
        let columns = (kept_bound o.permission q s session.vars o.entry.table z.0).columns in
        let here : numbered (direct_row role m s d q (rows_for os lists) o) 0 (permitted_under q s d o.entry.table) ≡ rows_of role m s (seen_in v) o =
        rows_over s (rows_for os lists) (permitted s g d) lists_permitted role m d q o 0 (permitted_under q s d o.entry.table)
        ∙ ap (λ p. numbered (direct_row role m s d q (permitted s g d) o) 0 (permitted_under p s d o.entry.table)) (sym granted)
        ∙ sym (rows_are role m s g d o q granted columns) in
        ap₂ (λ r l. r ∷ l) here (copies xs ps h.1 z.1)

    pub lists_are : lists_due role m s d os qs ≡ copied_rows role m s v
    lists_are = copies os qs (all_held tables m role fit) zipped
