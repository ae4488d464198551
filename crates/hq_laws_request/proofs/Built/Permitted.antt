-- What a role's access says of the tables: columns and relationships that it permits are there.
use Rattle.std.proofs.Common.{◌≡◌, ◌∙◌, refl, sym, ap, subst, ℕ, List, [], ◌∷◌, length, Bool, true, false, ◌==◌, ◌||◌, nat_lt, Option, Some, None, is_some, option_map, slice_get}
use Rattle.std.specs.Prelude.{unwrap_or}
use Rattle.std.specs.List.{list_any}
use Rattle.std.specs.Option.{option_map_or}
use Rattle.std.proofs.lemmas.Bool.{and_parts, eqb-true, false≢true, ltb-true}
use Rattle.std.proofs.lemmas.Option.{slice_get-get_or, get_or_from_slice_get}
use Rattle.hq_base.specs.Lists.{Each}
use Rattle.hq_model.specs.Filters.{column_ty}
use Rattle.hq_model.specs.Fits.{fits, fits_tracked}
use Rattle.hq_model.specs.Laws.{HasColumn}
use Rattle.hq_model.specs.Meta.{MetaTree, TrackedTree, tracked_table}
use Rattle.hq_model.specs.Permission.{Permission, permission}
use Rattle.hq_model.specs.Schema.{Schema, schema_of, schema_table, table, column, rel, no_rel, no_column, no_table}
use Rattle.hq_model.specs.declared.meta.Rel.{Rel}
use Rattle.hq_model.specs.declared.role.Role.{Role}
use Rattle.hq_model.specs.declared.table.Column.{Column}
use Rattle.hq_model.specs.declared.table.Table.{Table}
use Rattle.hq_model.proofs.Permitting.{permission_fits}
use Rattle.hq_model.proofs.Places.{table_present, at_0}
use Rattle.hq_schema_roles.specs.Access.{Access, access_of}
use Rattle.hq_laws_request.proofs.Built.Items.{each_of, found_each}
use Rattle.hq_laws_request.proofs.Built.BuildingSteps.{and_then_some}

-- ---- columns that are there

-- a number among others has what they all have
among : (P : ℕ → Type 0) (cs : List ℕ) (c : ℕ) → Each P cs → list_any (λ d. d == c) cs ≡ true → P c
among P [] c h g = absurd (false≢true g)
among P (d ∷ cs) c h g =
    let by : (b : Bool) → (d == c) ≡ b → (b || list_any (λ d. d == c) cs) ≡ true → P c =
    elim [ true ↦ λ e g. subst P (eqb-true d c e) h.0 | false ↦ λ e g. among P cs c h.1 g ] in
    by (d == c) refl g

-- a column of the catalog has the type that it shows
typed : (s : Schema) (t c : ℕ) → HasColumn s t c → column_ty s t c ≡ Some (column s t c).ty
typed s t c h = by (slice_get (table s t).columns c) refl h
  where
    by : (o : Option Column) → slice_get (table s t).columns c ≡ o → is_some (option_map (λ (d : Column). d.ty) o) ≡ true → option_map (λ (d : Column). d.ty) o ≡ Some (column s t c).ty
    by None is h = absurd (false≢true h)
    by (Some d) is h = ap (λ (x : Column). Some x.ty) (sym (get_or_from_slice_get (table s t).columns c d no_column is))

-- ---- all that fits

module _ (tables : List Table) (m : MetaTree) (metadata_fits : fits tables m ≡ true) where
  abbrev s : Schema
  s = schema_of tables m

  -- the entry of a table fits
  pub entry : (t : ℕ) (k : TrackedTree) → tracked_table m t ≡ Some k → (k.table ≡ t) × (fits_tracked s m k ≡ true)
  entry t k is =
      let all = (and_parts _ _ (and_parts _ _ (and_parts _ _ metadata_fits).0).0).1 in
      let both = found_each (λ j. fits_tracked s m j ≡ true) (λ j. j.table == t) m.tracked k is (each_of (fits_tracked s m) m.tracked all) in
      (eqb-true k.table t both.1, both.0)

  -- its table is in the catalog, and it has a name for each column
  pub entry_parts : (k : TrackedTree) → fits_tracked s m k ≡ true → (nat_lt k.table (length s) ≡ true) × ((length k.column_names == length (table s k.table).columns) ≡ true)
  entry_parts k h =
      let rels = and_parts _ _ (and_parts _ _ (and_parts _ _ (and_parts _ _ h).0).0).0 in
      let names = and_parts _ _ (and_parts _ _ rels.0).0 in
      ((and_parts _ _ names.0).0, names.1)

  -- a tracked table is in the catalog
  pub in_catalog : (t : ℕ) (k : TrackedTree) → tracked_table m t ≡ Some k → (x : Table) × (slice_get tables t ≡ Some x)
  in_catalog t k is =
      let e = entry t k is in
      let there : nat_lt t (length s) ≡ true = subst (λ u. nat_lt u (length s) ≡ true) e.0 (entry_parts k e.1).0 in
      by (slice_get tables t) refl there
    where
      by : (o : Option Table) → slice_get tables t ≡ o → nat_lt t (length s) ≡ true → (x : Table) × (o ≡ Some x)
      by (Some x) at there = (x, refl)
      by None at there =
          let none : slice_get s t ≡ None = at_0 (schema_table m) tables t ∙ ap (option_map (schema_table m t)) at in
          let some = slice_get-get_or s t no_table (ltb-true t (length s) there) in
          absurd (false≢true (ap is_some (sym none ∙ some)))

  module _ (role : Role) where
    abbrev a : Access
    a = access_of m role

    -- a permitted column has a type
    pub column_typed : (t c : ℕ) → a.column t c ≡ true → column_ty s t c ≡ Some (column s t c).ty
    column_typed t c h = by (permission role m t) refl h
      where
        by : (o : Option Permission) → permission role m t ≡ o → option_map_or (λ p. list_any (λ d. d == c) p.columns) o false ≡ true → column_ty s t c ≡ Some (column s t c).ty
        by None is g = absurd (false≢true g)
        by (Some p) is g = typed s t c (among (HasColumn s t) p.columns c (permission_fits tables m role t metadata_fits p is).columns g)

    -- a relationship of the schema is that of its table
    pub rel_at : (t r : ℕ) (q : Rel) → a.rel t r ≡ Some q → (rel s t r ≡ q) × (is_some (slice_get (table s t).rels r) ≡ true)
    rel_at t r q h =
        let found = and_then_some (λ (k : TrackedTree). slice_get k.rels r) (tracked_table m t) q h in
        let k : TrackedTree = found.0 in
        let x = in_catalog t k found.1 in
        let rels : (table s t).rels ≡ k.rels = ap (λ u. u.rels) (table_present tables m t x.0 x.1) ∙ ap (λ o. unwrap_or (option_map (λ (j : TrackedTree). j.rels) o) []) found.1 in
        let here : slice_get (table s t).rels r ≡ Some q = ap (λ l. slice_get l r) rels ∙ found.2 in
        (get_or_from_slice_get (table s t).rels r q no_rel here, ap is_some here)
