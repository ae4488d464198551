-- The tables that a role's schema shows, and the places of the types that each schema has.
use Rattle.std.proofs.Common.{◌≡◌, ◌∙◌, refl, sym, ap, subst, ℕ, ◌+◌, List, [], ◌∷◌, ◌++◌, Bool, true, false, not, ◌==◌, Option, Some, None, option_map, option_and_then, slice_get, find, append_assoc, eq-eqb, IfSome}
use Rattle.std.specs.List.{list_any}
use Rattle.std.proofs.lemmas.Bool.{and_parts, not-true, or_parts}
use Rattle.std.proofs.lemmas.List.Folds.{list_any-append}
use Rattle.hq_base.specs.Lists.{Each, all_differ}
use Rattle.hq_base.proofs.Lists.{each_all}
use Rattle.hq_base.specs.declared.value.Ty.TheVariants as ty
use Rattle.hq_model.specs.Filters.{column_ty}
use Rattle.hq_model.specs.Meta.{MetaTree, TrackedTree, tracked_table}
use Rattle.hq_model.specs.Permission.{Mask, Permission, permission}
use Rattle.hq_model.specs.Schema.{Schema, schema_of}
use Rattle.hq_model.specs.declared.role.Role.{Role}
use Rattle.hq_model.specs.declared.table.Column.{Column}
use Rattle.hq_model.specs.declared.table.Table.{Table}
use Rattle.hq_model.proofs.Places.{table_present}
use Rattle.hq_schema.specs.Fixed.{fixed_place}
use Rattle.hq_schema.specs.declared.fixed.Fixed.{Fixed}
use Rattle.hq_schema.specs.declared.fixed.Fixed.TheVariants.{Scalar, OrderBy, Comparison, Schema as SchemaType, «Type» as TypeType, Field, InputValue, EnumValue, Directive, TypeKind, DirectiveLocation, QueryRoot}
use Rattle.hq_schema.specs.Schema.{TypeTree}
use Rattle.hq_schema_of_role.specs.Introspection.{introspection_fields}
use Rattle.hq_schema_of_role.specs.FixedTypes.{fixed_values, fixed_type}
use Rattle.hq_schema_of_role.specs.Placed.{part_count, placed, placed_from}
use Rattle.hq_schema_of_role.specs.RoleSchema.{role_schema}
use Rattle.hq_schema_of_role.specs.Shown.{under_name, shown_table, shown_entry, shown_tables}
use Rattle.hq_schema_of_role.specs.declared.shown.PlacedTable.{PlacedTable}
use Rattle.hq_schema_of_role.specs.declared.shown.ShownColumn.{ShownColumn}
use Rattle.hq_schema_of_role.specs.declared.shown.ShownTable.{ShownTable}
use Rattle.hq_laws_request.proofs.Built.Items.{each_filter_map}

-- ---- each entry of a metadata is the first one of its table

-- a front in which nothing passes is passed over
find_past : {A : Type 0} (p : A → Bool) (front xs : List A) → list_any p front ≡ false → find p (front ++ xs) ≡ find p xs
find_past p [] xs h = refl
find_past p (y ∷ front) xs h = let parts = or_parts (p y) (list_any p front) h in rw parts.0 (find_past p front xs parts.1)

-- no entry of these is of the table
abbrev IsNew : List TrackedTree → TrackedTree → Type 0
IsNew front k = list_any (λ (j : TrackedTree). j.table == k.table) front ≡ false

new_more : (front : List TrackedTree) (k : TrackedTree) (ks : List TrackedTree) → Each (IsNew front) ks → list_any (λ (x : TrackedTree). k.table == x.table) ks ≡ false
    → Each (IsNew (front ++ k ∷ [])) ks
new_more front k [] h g = tt
new_more front k (x ∷ ks) h g =
    let p : TrackedTree → Bool = λ (j : TrackedTree). j.table == x.table in
    let other = or_parts (k.table == x.table) (list_any (λ (y : TrackedTree). k.table == y.table) ks) g in
    let here : list_any p (front ++ k ∷ []) ≡ false = list_any-append p front (k ∷ []) ∙ (rw (h.0, other.0) refl) in
    (here, new_more front k ks h.1 other.1)

pub firsts_are : (front ks : List TrackedTree) → all_differ (λ (j k : TrackedTree). j.table == k.table) ks ≡ true → Each (IsNew front) ks
    → Each (λ (k : TrackedTree). find (λ (j : TrackedTree). j.table == k.table) (front ++ ks) ≡ Some k) ks
firsts_are front [] differ new = tt
firsts_are front (k ∷ ks) differ new =
    let p : TrackedTree → Bool = λ (j : TrackedTree). j.table == k.table in
    let parts = and_parts (not (list_any (λ (x : TrackedTree). k.table == x.table) ks)) (all_differ (λ (i j : TrackedTree). i.table == j.table) ks) differ in
    let none = not-true (list_any (λ (x : TrackedTree). k.table == x.table) ks) parts.0 in
    let self : (k.table == k.table) ≡ true = eq-eqb k.table k.table refl in
    let here : find p (front ++ k ∷ ks) ≡ Some k = find_past p front (k ∷ ks) new.0 ∙ (rw self refl) in
    let P : List TrackedTree → Type 0 = λ all. Each (λ (x : TrackedTree). find (λ (j : TrackedTree). j.table == x.table) all ≡ Some x) ks in
    (here, subst P (append_assoc front (k ∷ []) ks) (firsts_are (front ++ k ∷ []) ks parts.1 (new_more front k ks new.1 none)))

pub none_new : (ks : List TrackedTree) → Each (IsNew []) ks
none_new [] = tt
none_new (k ∷ ks) = (refl, none_new ks)

-- ---- tables that are shown

module _ (tables : List Table) (m : MetaTree) (role : Role) where
  abbrev s : Schema
  s = schema_of tables m

  -- the columns of a table that is shown have their types
  pub record IsShown (t : ShownTable) : Type 0 where
    pub columns : Each (λ (c : ShownColumn). column_ty s t.table c.col ≡ Some c.ty) t.columns

  entry_shown : (k : TrackedTree) → tracked_table m k.table ≡ Some k → IfSome (shown_entry tables m role k) IsShown
  entry_shown k first = by (slice_get tables k.table) (permission role m k.table) refl refl
    where
      typed : (t : Table) (ms : List Mask) → slice_get tables k.table ≡ Some t → (c : ℕ) (o : Option Column) (name : Option (List ℕ)) → slice_get t.columns c ≡ o
          → IfSome (under_name ms c o name) (λ (x : ShownColumn). column_ty s k.table x.col ≡ Some x.ty)
      typed t ms here c None name at = tt
      typed t ms here c (Some d) None at = tt
      typed t ms here c (Some d) (Some n) at =
          ap (λ u. option_map (λ (d : Column). d.ty) (slice_get u.columns c)) (table_present tables m k.table t here) ∙ ap (option_map (λ (d : Column). d.ty)) at

      by : (t : Option Table) (p : Option Permission) → slice_get tables k.table ≡ t → permission role m k.table ≡ p
          → IfSome (option_and_then (λ (t : Table). option_map (shown_table k t) p) t) IsShown
      by None p here granted = tt
      by (Some t) None here granted = tt
      by (Some t) (Some p) here granted = record {
        columns =
            each_filter_map (λ (x : ShownColumn). column_ty s k.table x.col ≡ Some x.ty) (λ (c : ℕ). Unit {0}) (λ c. under_name p.masks c (slice_get t.columns c) (slice_get k.column_names c))
            (λ c u. typed t p.masks here c (slice_get t.columns c) (slice_get k.column_names c) refl) p.columns (each_all (λ (c : ℕ). Unit {0}) (λ c. tt) p.columns);
      }

  pub tables_shown : all_differ (λ (j k : TrackedTree). j.table == k.table) m.tracked ≡ true → Each IsShown (shown_tables tables m role)
  tables_shown differ =
      each_filter_map IsShown (λ (k : TrackedTree). tracked_table m k.table ≡ Some k) (shown_entry tables m role) entry_shown m.tracked (firsts_are [] m.tracked differ (none_new m.tracked))

  pub placed_shown : (first : ℕ) (ts : List ShownTable) → Each IsShown ts → Each (λ (p : PlacedTable). IsShown p.shown) (placed_from first ts)
  placed_shown first [] h = tt
  placed_shown first (t ∷ ts) h = (h.0, placed_shown (first + part_count t) ts h.1)

  -- the scalar of an opaque column is that of texts
  opaque_scalar : (ps : List PlacedTable) → fixed_type ps (Scalar ty.Opaque) ≡ fixed_type ps (Scalar ty.Text)
  unfolding fixed_type fixed_values introspection_fields
  opaque_scalar ps = refl

  -- the types that each schema has stand at their places
  pub introspection_at : (f : Fixed) → slice_get (role_schema tables m role).types (fixed_place f) ≡ Some (fixed_type (placed (shown_tables tables m role)) f)
  unfolding role_schema
  introspection_at (Scalar ty.Boolean) = refl
  introspection_at (Scalar ty.Integer) = refl
  introspection_at (Scalar ty.Text) = refl
  introspection_at (Scalar ty.Bigint) = refl
  introspection_at (Scalar ty.Uuid) = refl
  introspection_at (Scalar ty.Opaque) = ap (λ (d : TypeTree). Some d) (sym (opaque_scalar (placed (shown_tables tables m role))))
  introspection_at OrderBy = refl
  introspection_at (Comparison ty.Boolean) = refl
  introspection_at (Comparison ty.Integer) = refl
  introspection_at (Comparison ty.Text) = refl
  introspection_at (Comparison ty.Bigint) = refl
  introspection_at (Comparison ty.Uuid) = refl
  introspection_at (Comparison ty.Opaque) = refl
  introspection_at SchemaType = refl
  introspection_at TypeType = refl
  introspection_at Field = refl
  introspection_at InputValue = refl
  introspection_at EnumValue = refl
  introspection_at Directive = refl
  introspection_at TypeKind = refl
  introspection_at DirectiveLocation = refl
  introspection_at QueryRoot = refl
