-- The GraphQL names of a table's columns are read from the shown columns with their names.
use Rattle.std.proofs.Common.{◌≡◌, ◌∙◌, ℕ, suc, ◌+◌, ◌==◌, ◌&&◌, List, [], ◌∷◌, length, map, Bool, true, false, cond, Option, Some, None, Ok, slice_get, slice_index_or, position, option_and_then, bytes_eq, refl, sym, ap, subst, arith, eq-eqb, ne_eqb}
use Rattle.std.specs.List.{list_any}
use Rattle.std.specs.Map.{lookup}
use Rattle.std.proofs.lemmas.Bool.{true≢false}
use Rattle.std.proofs.lemmas.Bool.Decides.{Decides-eqb}
use Rattle.hq_base.specs.Due.{and_then}
use Rattle.hq_base.specs.Json.{JsonTree, str, members_of}
use Rattle.hq_base.specs.Lists.{Each, all_differ, sort}
use Rattle.hq_base.specs.Look.{member_list}
use Rattle.hq_base.specs.Path.{member_path}
use Rattle.hq_base.proofs.Lists.{all_differ_filter, each_all, each_filter, each_weaken}
use Rattle.hq_base.proofs.Sorts.{each_sort, sort_any}
use Rattle.hq_model.specs.Meta.{TrackedTree}
use Rattle.hq_model.specs.declared.table.Column.{Column}
use Rattle.hq_load_meta_tables.specs.Configured.{column_config_at, column_name_by, column_name_of, member_due, members_due}
use Rattle.hq_load_meta_tables.specs.Each.{all_pass}
use Rattle.hq_load_meta_tables.specs.Field.{field_name}
use Rattle.hq_load_meta_tables.specs.Node.{object_at, text_at, unless_null, named_value}
use Rattle.hq_load_meta_tables.specs.declared.field.Field.TheVariants as field
use Rattle.hq_load_meta.specs.Permitted.{all_columns}
use Rattle.hq_laws_written.specs.Json.Building.{object}
use Rattle.hq_laws_written.specs.Json.ReadBack.{by_name, in_name_order, ordered_inside}
use Rattle.hq_laws_written.proofs.Json.Building.{members_inside, members_listed}
use Rattle.hq_laws_written.specs.Catalog.Written.{name_at, name_in}
use Rattle.hq_laws_written.proofs.Catalog.Lists.{any_map, differ_map, position_of}
use Rattle.hq_laws_written.proofs.Catalog.Places.{same_name, IsPlace, differ, one_place, place_found}
use Rattle.hq_laws_written.proofs.Catalog.Tests.{key_names}
use Rattle.hq_model.specs.Schema.{numbered}
use Rattle.hq_laws_written.specs.Metadata.Written.{is_shown, shown_columns, column_config, column_configs}
use Rattle.hq_laws_written.proofs.Metadata.Lists.{each_map, numbered_each, at_numbered, numbered_any, any_alike, any_none, any_filter, lookup_by, map_places}
use Rattle.hq_laws_written.proofs.Metadata.Parts.{named_back}

and_false : (b : Bool) → (b && false) ≡ false
and_false true = refl
and_false false = refl

-- places are different ones
places_differ : {A : Type 0} (n : ℕ) (xs : List A) → all_differ (λ c d. c == d) (numbered (λ place x. place) n xs) ≡ true
places_differ n [] = refl
places_differ n (x ∷ xs) =
    rw
    (any_none (λ d. n == d) (numbered (λ place y. place) (suc n) xs)
    (numbered_each (λ d. (n == d) ≡ false) (suc n) xs (λ i y e. ne_eqb n (suc n + i) (λ same. omega (arith, same)))))
    (places_differ (suc n) xs)

module _ (k : TrackedTree) (columns : List Column) (apart : differ columns ≡ true) where
  -- a member that is read
  abbrev Read : Type 0
  Read = List ℕ × JsonTree

  -- a column with its name, as it is read
  abbrev config_read : ℕ → Read
  config_read c = (name_at columns c, in_name_order (object ((field_name field.CustomName, str (slice_index_or k.column_names c [])) ∷ [])))

  -- the members, as they are read
  abbrev pub configs_read : List Read
  configs_read = sort by_name (map (λ (m : Read). (m.0, in_name_order m.1)) (column_configs k columns))

  pub configs_are : member_list (members_of (sort by_name (ordered_inside (members_of (column_configs k columns))))) ≡ configs_read
  configs_are = members_listed (sort by_name (ordered_inside (members_of (column_configs k columns)))) ∙ ap (sort by_name) (members_inside (column_configs k columns))

  -- a fact of each shown column's member
  each_read : (P : Read → Type 0) → Each (λ c. P (config_read c)) (shown_columns k columns) → Each P configs_read
  each_read P h =
      each_sort by_name P (map (λ (m : Read). (m.0, in_name_order m.1)) (column_configs k columns))
      (each_map P (λ (m : Read). (m.0, in_name_order m.1)) (column_configs k columns)
      (each_sort by_name (λ (m : Read). P (m.0, in_name_order m.1)) (map (column_config k columns) (shown_columns k columns))
      (each_map (λ (m : Read). P (m.0, in_name_order m.1)) (column_config k columns) (shown_columns k columns) h)))

  -- a test of some member
  any_read : (p : Read → Bool) → list_any p configs_read ≡ list_any (λ c. p (config_read c)) (shown_columns k columns)
  any_read p =
      sort_any by_name p (map (λ (m : Read). (m.0, in_name_order m.1)) (column_configs k columns))
      ∙ any_map p (λ (m : Read). (m.0, in_name_order m.1)) (column_configs k columns)
      ∙ sort_any by_name (λ (m : Read). p (m.0, in_name_order m.1)) (map (column_config k columns) (shown_columns k columns))
      ∙ any_map (λ (m : Read). p (m.0, in_name_order m.1)) (column_config k columns) (shown_columns k columns)

  -- each shown column is there
  all_there : Each (IsPlace columns) (all_columns columns)
  all_there = numbered_each (IsPlace columns) 0 columns (λ i c e. let same : i ≡ 0 + i = omega arith in subst (IsPlace columns) same (c, e))

  pub shown_there : Each (IsPlace columns) (shown_columns k columns)
  shown_there = each_filter (IsPlace columns) (is_shown k) (all_columns columns) all_there

  -- the shown columns have different names
  pub shown_differ : all_differ (λ c d. bytes_eq (name_at columns c) (name_at columns d)) (shown_columns k columns) ≡ true
  shown_differ =
      sym (differ_map bytes_eq (name_at columns) (shown_columns k columns))
      ∙ key_names columns (shown_columns k columns) apart (all_differ_filter (λ c d. c == d) (is_shown k) (all_columns columns) (places_differ 0 columns)) shown_there

  -- ---- the test of the members

  config_passes : (c : ℕ) (path : List ℕ) → IsPlace columns c → member_due (column_config_at columns) path (config_read c).0 (unless_null (config_read c).1) ≡ Ok tt
  unfolding column_config_at object_at text_at named_value field_name
  config_passes c path is = rw (named_back columns c (member_path path (name_at columns c)) apart is) refl

  all_passed : (path : List ℕ) (ms : List Read)
      → Each (λ (m : Read). member_due (column_config_at columns) path m.0 (unless_null m.1) ≡ Ok tt) ms
      → all_pass (λ (m : Read). member_due (column_config_at columns) path m.0 (unless_null m.1)) ms ≡ Ok tt
  all_passed path [] h = refl
  all_passed path (m ∷ ms) h = ap (and_then (λ u. all_pass (λ (n : Read). member_due (column_config_at columns) path n.0 (unless_null n.1)) ms)) h.0 ∙ all_passed path ms h.1

  -- the members are named for columns
  pub configs_pass : (path : List ℕ) → members_due (column_config_at columns) path (Some (in_name_order (object (column_configs k columns)))) ≡ Ok tt
  configs_pass path =
      ap (all_pass (λ (m : Read). member_due (column_config_at columns) path m.0 (unless_null m.1))) configs_are
      ∙ all_passed path configs_read (each_read (λ m. member_due (column_config_at columns) path m.0 (unless_null m.1) ≡ Ok tt)
      (each_weaken (IsPlace columns) (λ c. member_due (column_config_at columns) path (config_read c).0 (unless_null (config_read c).1) ≡ Ok tt)
      (λ c is. config_passes c path is) (shown_columns k columns) shown_there))

  -- ---- the names

  -- the GraphQL name of the column that stands at a place
  abbrev name_of : Option ℕ → List ℕ
  name_of None = []
  name_of (Some c) = slice_index_or k.column_names c []

  -- what the member of this name holds
  abbrev value_under : List ℕ → JsonTree
  value_under name = in_name_order (object ((field_name field.CustomName, str (name_of (position (λ c. bytes_eq c.name name) columns))) ∷ []))

  values : Each (λ m. m.1 ≡ value_under m.0) configs_read
  values =
      each_read (λ m. m.1 ≡ value_under m.0)
      (each_weaken (IsPlace columns) (λ c. (config_read c).1 ≡ value_under (config_read c).0)
      (λ c is. ap (λ o. in_name_order (object ((field_name field.CustomName, str (name_of o)) ∷ [])))
      (sym (place_found columns c apart is)))
      (shown_columns k columns) shown_there)

  -- of the columns, the one of this name is the one at this place
  only_here : (i : ℕ) (c : Column) (d : ℕ) → slice_get columns i ≡ Some c → IsPlace columns d → bytes_eq (name_at columns d) c.name ≡ (d == i)
  only_here i c d at is =
      let named : name_at columns i ≡ c.name = ap name_in at in
      let go : (b : Bool) → bytes_eq (name_at columns d) c.name ≡ b → b ≡ (d == i) = elim [
        | true ↦ λ e. sym (eq-eqb d i (one_place columns d i apart is (c, at) (ap (bytes_eq (name_at columns d)) named ∙ e)))
        | false ↦ λ e. sym (ne_eqb d i (λ same. true≢false (sym (same_name c.name) ∙ ap (λ n. bytes_eq n c.name) (sym named ∙ ap (name_at columns) (sym same)) ∙ e)))
      ] in
      go (bytes_eq (name_at columns d) c.name) refl

  -- a column that is shown is among the shown ones, and no other is
  among_shown : (i : ℕ) (c : Column) (b : Bool) → slice_get columns i ≡ Some c → is_shown k i ≡ b → list_any (λ d. is_shown k d && (d == i)) (all_columns columns) ≡ b
  among_shown i c true at e =
      let here : (is_shown k (0 + i) && (0 + i == i)) ≡ true = let same : 0 + i ≡ i = omega arith in rw same (rw (e, eq-eqb i i refl) refl) in
      numbered_any (λ d. is_shown k d && (d == i)) 0 columns i c at here
  among_shown i c false at e =
      let none : (d : ℕ) (b : Bool) → (d == i) ≡ b → (is_shown k d && b) ≡ false =
      λ d. elim [ true ↦ λ same. rw ((Decides-eqb d i).0 same, e) refl | false ↦ λ other. and_false (is_shown k d) ] in
      any_none (λ d. is_shown k d && (d == i)) (all_columns columns) (each_all (λ d. (is_shown k d && (d == i)) ≡ false) (λ d. none d (d == i) refl) (all_columns columns))

  -- a member has a column's name where the column is shown
  member_there : (i : ℕ) (c : Column) → slice_get columns i ≡ Some c → list_any (λ m. bytes_eq m.0 c.name) configs_read ≡ is_shown k i
  member_there i c at =
      any_read (λ m. bytes_eq m.0 c.name)
      ∙ any_alike (λ d. bytes_eq (name_at columns d) c.name) (λ d. d == i) (shown_columns k columns)
      (each_weaken (IsPlace columns) (λ d. bytes_eq (name_at columns d) c.name ≡ (d == i)) (λ d is. only_here i c d at is)
      (shown_columns k columns) shown_there)
      ∙ any_filter (λ d. d == i) (is_shown k) (all_columns columns)
      ∙ among_shown i c (is_shown k i) at refl

  -- a column that is not shown has its own name
  module _ (own : Each (λ c. is_shown k c ≡ false → slice_index_or k.column_names c [] ≡ name_at columns c) (all_columns columns)) where
    -- the name that is read of what the member holds, where there is one
    name_by : (i : ℕ) (c : Column) (b : Bool) → slice_get columns i ≡ Some c → is_shown k i ≡ b
        → column_name_by (option_and_then unless_null (cond b (Some (value_under c.name)) None)) None c.name ≡ slice_index_or k.column_names i []
    unfolding named_value field_name
    name_by i c true at e = ap name_of (position_of (λ (d f : Column). bytes_eq d.name f.name) columns i c apart (same_name c.name) at)
    name_by i c false at e =
        let unshown = at_numbered (λ d. is_shown k d ≡ false → slice_index_or k.column_names d [] ≡ name_at columns d) 0 columns own i c at in
        let same : 0 + i ≡ i = omega arith in
        let own_here = subst (λ n. is_shown k n ≡ false → slice_index_or k.column_names n [] ≡ name_at columns n) same unshown in
        sym (own_here e ∙ ap name_in at)

    -- the name that is read of a column
    name_back : (i : ℕ) (c : Column) → slice_get columns i ≡ Some c → column_name_of (Some (in_name_order (object (column_configs k columns)))) None c ≡ slice_index_or k.column_names i []
    unfolding named_value
    name_back i c at =
        ap (λ o. column_name_by (option_and_then unless_null o) None c.name)
        (ap (lookup (λ n. bytes_eq n c.name)) configs_are
        ∙ lookup_by value_under c.name configs_read values
        ∙ ap (λ b. cond b (Some (value_under c.name)) None) (member_there i c at))
        ∙ name_by i c (is_shown k i) at refl

    -- the names of all columns
    pub names_back : length k.column_names ≡ length columns → map (column_name_of (Some (in_name_order (object (column_configs k columns)))) None) columns ≡ k.column_names
    names_back many = map_places (column_name_of (Some (in_name_order (object (column_configs k columns)))) None) [] columns k.column_names many name_back
