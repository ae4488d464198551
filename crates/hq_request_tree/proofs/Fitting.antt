-- What a role may use is there, where the metadata fits the catalog.
use Rattle.std.proofs.Common.{◌≡◌, ℕ, suc, zero, List, [], ◌∷◌, length, find, Bool, true, false, cond, ◌==◌, ◌&&◌, nat_lt, Option, Some, None, is_some, refl, sym, ap, subst, ◌∙◌}
use Rattle.std.specs.List.{list_any, list_all}
use Rattle.std.specs.Prelude.{option_map, slice_get, slice_index_or, unwrap_or}
use Rattle.std.proofs.lemmas.Bool.{and_parts, eqb-true, false≢true, lt-ltb}
use Rattle.std.proofs.lemmas.Option.{get_or_from_slice_get}
use Rattle.hq_model.specs.Filters.{column_ty}
use Rattle.hq_model.specs.Fits.{fits, fits_rel, fits_tracked}
use Rattle.hq_model.specs.Laws.{HasColumn, PermissionsFit}
use Rattle.hq_model.specs.Meta.{MetaTree, TrackedTree, tracked_table}
use Rattle.hq_model.specs.Permission.{Permission, permission}
use Rattle.hq_model.specs.Schema.{Schema, schema_of, table, rel, no_rel}
use Rattle.hq_model.specs.declared.meta.Rel.{Rel}
use Rattle.hq_model.specs.declared.role.Role.{Role}
use Rattle.hq_model.specs.declared.table.Table.{Table}
use Rattle.hq_model.proofs.Places.{table_present, table_absent}
use Rattle.hq_request_tree.specs.Allowed.{allowed_to, existing, permitted_columns}
use Rattle.hq_request_tree.proofs.Among.{holds_among}
use Rattle.hq_request_tree.proofs.Weaken.{Wider}

-- an item that is found passes the test, and each test that all items pass
found : {A : Type 0} (p q : A → Bool) (xs : List A) (x : A) → list_all q xs ≡ true → find p xs ≡ Some x → (p x ≡ true) × (q x ≡ true)
found p q [] x all is = absurd (false≢true (ap is_some is))
found p q (y ∷ ys) x all is =
    let parts = and_parts (q y) (list_all q ys) all in
    let by : (b : Bool) → p y ≡ b → cond b (Some y) (find p ys) ≡ Some x → (p x ≡ true) × (q x ≡ true) =
    elim [ true ↦ λ e same. subst (λ z. (p z ≡ true) × (q z ≡ true)) (ap (λ o. unwrap_or o y) same) (e, parts.0) | false ↦ λ e later. found p q ys x parts.1 later ] in
    by (p y) refl is

-- an item at a place passes each test that all items pass
all_at : {A : Type 0} (q : A → Bool) (xs : List A) (i : ℕ) (x : A) → list_all q xs ≡ true → slice_get xs i ≡ Some x → q x ≡ true
all_at q [] i x all is = absurd (false≢true (ap is_some is))
all_at q (y ∷ ys) zero x all is = subst (λ z. q z ≡ true) (ap (λ o. unwrap_or o y) is) (and_parts (q y) (list_all q ys) all).0
all_at q (y ∷ ys) (suc i) x all is = all_at q ys i x (and_parts (q y) (list_all q ys) all).1 is

true_both : {a b : Bool} → a ≡ true → b ≡ true → (a && b) ≡ true
true_both g h = rw (g, h) refl

-- ---- what fits

module _ (tables : List Table) (m : MetaTree) (fit : fits tables m ≡ true) where
  abbrev s : Schema
  s = schema_of tables m

  entry : (t : ℕ) (k : TrackedTree) → tracked_table m t ≡ Some k → (k.table ≡ t) × (fits_tracked s m k ≡ true)
  entry t k is =
      let all = (and_parts _ _ (and_parts _ _ (and_parts _ _ fit).0).0).1 in
      let both = found (λ j. j.table == t) (fits_tracked s m) m.tracked k all is in
      (eqb-true k.table t both.0, both.1)

  -- the relationships of an entry that fits
  rels_of : (k : TrackedTree) → fits_tracked s m k ≡ true → list_all (fits_rel s m k.table) k.rels ≡ true
  rels_of k h = (and_parts _ _ (and_parts _ _ (and_parts _ _ (and_parts _ _ h).0).0).0).1

  -- ---- what a role may see

  module _ (role : Role) (permitted : (t : ℕ) → PermissionsFit tables m role t) where
    column_there : (t c : ℕ) → (allowed_to role m s).column t c ≡ true → (existing m s).column t c ≡ true
    column_there t c h =
        let by : (o : Option Permission) → permission role m t ≡ o → list_any (λ d. d == c) (permitted_columns o) ≡ true → is_some (column_ty s t c) ≡ true =
        elim [ None ↦ λ is g. absurd (false≢true g) | Some p ↦ λ is g. holds_among (HasColumn s t) p.columns c (permitted t fit p is).columns g ] in
        by (permission role m t) refl h

    rows_there : (t : ℕ) → (allowed_to role m s).rows t ≡ true → (existing m s).rows t ≡ true
    rows_there t h =
        let by : (o : Option Permission) → permission role m t ≡ o → is_some o ≡ true → nat_lt t (length s) ≡ true =
        elim [ None ↦ λ is g. absurd (false≢true g) | Some p ↦ λ is g. lt-ltb t (length s) (permitted t fit p is).there ] in
        by (permission role m t) refl h

  -- ---- relationships

  rel_fits : (t r : ℕ) → is_some (slice_get (table s t).rels r) ≡ true → fits_rel s m t (rel s t r) ≡ true
  rel_fits t r h =
      let of_entry : (o : Option TrackedTree) → tracked_table m t ≡ o → (table s t).rels ≡ unwrap_or (option_map (λ k. k.rels) o) [] → fits_rel s m t (rel s t r) ≡ true =
      elim [
        | None ↦ λ is e. absurd (false≢true (sym (ap (λ l. is_some (slice_get l r)) e) ∙ h))
        | Some k ↦ λ is e.
            let f = entry t k is in
            let there : (o : Option Rel) → slice_get k.rels r ≡ o → is_some o ≡ true → fits_rel s m t (rel s t r) ≡ true =
            elim [
              | None ↦ λ at g. absurd (false≢true g)
              | Some q ↦ λ at g.
                  let same : rel s t r ≡ q = ap (λ l. slice_index_or l r no_rel) e ∙ get_or_from_slice_get k.rels r q no_rel at in
                  subst (λ z. fits_rel s m t z ≡ true) (sym same) (subst (λ u. fits_rel s m u q ≡ true) f.0 (all_at (fits_rel s m k.table) k.rels r q (rels_of k f.1) at))
            ] in
            there (slice_get k.rels r) refl (sym (ap (λ l. is_some (slice_get l r)) e) ∙ h)
      ] in
      let by : (o : Option Table) → slice_get tables t ≡ o → fits_rel s m t (rel s t r) ≡ true =
      elim [
        | None ↦ λ is. absurd (false≢true (sym (ap (λ u. is_some (slice_get u.rels r)) (table_absent tables m t is)) ∙ h))
        | Some x ↦ λ is. of_entry (tracked_table m t) refl (ap (λ u. u.rels) (table_present tables m t x is))
      ] in
      by (slice_get tables t) refl

  module _ (role : Role) (permitted : (t : ℕ) → PermissionsFit tables m role t) where
    relationship_there : (t r : ℕ) → (allowed_to role m s).relationship t r ≡ true → (existing m s).relationship t r ≡ true
    relationship_there t r h =
        let both = and_parts _ _ h in
        true_both (rel_fits t r both.0) (rows_there role permitted (rel s t r).remote both.1)

    pub permitted_there : Wider (allowed_to role m s) (existing m s)
    permitted_there = record { column = column_there role permitted; relationship = relationship_there; rows = rows_there role permitted; aggregates = λ t h. refl }
