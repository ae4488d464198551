-- The scalars that a role sees are named as no other type.
use Rattle.std.proofs.Common.{◌≡◌, ◌∙◌, refl, sym, ap, ℕ, List, [], ◌∷◌, ◌++◌, Bool, true, false, not, Option, Some, None, get_or}
use Rattle.std.specs.Prelude.{slice_get, bytes_eq}
use Rattle.std.specs.Cmp.Lexicographic.{bytes_decides}
use Rattle.std.specs.List.{list_any, filter_map, cons_option}
use Rattle.std.proofs.lemmas.Bool.{false≢true, and_parts, and_from, or_parts, or_from, not_from_false, not-true}
use Rattle.std.proofs.lemmas.List.Folds.{list_any-append}
use Rattle.std.proofs.lemmas.Option.{get_or_from_slice_get}
use Rattle.hq_base.specs.Lists.{Each, all_differ}
use Rattle.hq_base.proofs.Lists.{each_weaken}
use Rattle.hq_model.specs.Meta.{TrackedTree, MetaTree}
use Rattle.hq_model.specs.Permission.{Mask, Permission, named_columns}
use Rattle.hq_model.specs.Schema.{schema_of, table, column, no_column}
use Rattle.hq_model.specs.SchemaNames.{scalar_of, is_unlike, scalars_differ}
use Rattle.hq_model.specs.declared.table.Column.{Column}
use Rattle.hq_model.specs.declared.table.Table.{Table}
use Rattle.hq_model.proofs.Places.{table_present}
use Rattle.hq_schema_of_role.specs.Scalars.{table_scalars}
use Rattle.hq_schema_of_role.specs.Shown.{under_name, shown_columns, shown_table}
use Rattle.hq_schema_of_role.specs.declared.shown.ShownColumn.{ShownColumn}
use Rattle.hq_schema_roles.proofs.Permits.{each_of}
use Rattle.hq_schema_roles.proofs.Subs.{Sub, each_sub}

module _ (tables : List Table) (m : MetaTree) (k : TrackedTree) (tb : Table) (here : slice_get tables k.table ≡ Some tb) (types : List (List ℕ)) where
  abbrev Unlike : List ℕ → Type 0
  Unlike n = list_any (λ t. bytes_eq t n) types ≡ false

  -- the scalar of a column of the table is named as none of these types
  abbrev own : ℕ → Bool
  own c = is_unlike types (scalar_of (column (schema_of tables m) k.table c))

  column_is : (c : ℕ) (x : Column) → slice_get tb.columns c ≡ Some x → column (schema_of tables m) k.table c ≡ x
  column_is c x e =
      let columns : (table (schema_of tables m) k.table).columns ≡ tb.columns = ap (λ t. t.columns) (table_present tables m k.table tb here) in
      ap (λ (xs : List Column). get_or xs c no_column) columns ∙ get_or_from_slice_get tb.columns c x no_column e

  shown_unlike : (ms : List Mask) (cs : List ℕ) → Each (λ c. own c ≡ true) cs → Each Unlike (filter_map (λ (x : ShownColumn). x.scalar) (shown_columns tb k ms cs))
  shown_unlike ms [] h = tt
  shown_unlike ms (c ∷ cs) h = by (slice_get tb.columns c) (slice_get k.column_names c) refl (shown_unlike ms cs h.1)
    where
      rest : List (List ℕ)
      rest = filter_map (λ (x : ShownColumn). x.scalar) (shown_columns tb k ms cs)

      one : (o : Option (List ℕ)) → is_unlike types o ≡ true → Each Unlike rest → Each Unlike (cons_option o rest)
      one None e later = later
      one (Some n) e later = (not-true (list_any (λ t. bytes_eq t n) types) e, later)

      by : (o : Option Column) (n : Option (List ℕ)) → slice_get tb.columns c ≡ o → Each Unlike rest
          → Each Unlike (filter_map (λ (x : ShownColumn). x.scalar) (cons_option (under_name ms c o n) (shown_columns tb k ms cs)))
      by None n e later = later
      by (Some x) None e later = later
      by (Some x) (Some name) e later = one (scalar_of x) (ap (λ (y : Column). is_unlike types (scalar_of y)) (sym (column_is c x e)) ∙ h.0) later

  -- nor are those of columns of the table that a permission has
  pub chosen_unlike : (p : Permission) → Sub p.columns (named_columns k) → scalars_differ (schema_of tables m) types k ≡ true → Each Unlike (table_scalars (shown_table k tb p))
  chosen_unlike p chosen all = shown_unlike p.masks p.columns (each_sub (λ c. own c ≡ true) p.columns (named_columns k) chosen (each_of own (named_columns k) all))

-- ---- names between others

abbrev differ : List (List ℕ) → Bool
differ = all_differ bytes_eq

turned : (a b : List ℕ) → bytes_eq a b ≡ false → bytes_eq b a ≡ false
turned a b h = by (bytes_eq b a) refl
  where
    by : (c : Bool) → bytes_eq b a ≡ c → c ≡ false
    by false e = refl
    by true e = absurd (false≢true (sym h ∙ (bytes_decides a b).1 (sym ((bytes_decides b a).0 e))))

-- none of these names is n
none_turned : (n : List ℕ) (names : List (List ℕ)) → list_any (λ t. bytes_eq t n) names ≡ false → list_any (bytes_eq n) names ≡ false
none_turned n [] h = refl
none_turned n (t ∷ ts) h =
    let parts = or_parts (bytes_eq t n) (list_any (λ t. bytes_eq t n) ts) h in
    or_from (bytes_eq n t) (list_any (bytes_eq n) ts) (turned t n parts.0) (none_turned n ts parts.1)

-- n is none of these names, each of which is unlike some that have n among them
none_of_them : (n : List ℕ) (more scalars : List (List ℕ)) → Each (λ s. list_any (λ t. bytes_eq t s) (n ∷ more) ≡ false) scalars → list_any (bytes_eq n) scalars ≡ false
none_of_them n more [] h = refl
none_of_them n more (s ∷ scalars) h =
    or_from (bytes_eq n s) (list_any (bytes_eq n) scalars) (or_parts (bytes_eq n s) (list_any (λ t. bytes_eq t s) more) h.0).0 (none_of_them n more scalars h.1)

-- different names before names from which they differ
differ_before : (scalars rest : List (List ℕ)) → differ rest ≡ true → differ scalars ≡ true → Each (λ s. list_any (λ t. bytes_eq t s) rest ≡ false) scalars → differ (scalars ++ rest) ≡ true
differ_before [] rest h g unlike = h
differ_before (s ∷ scalars) rest h g unlike =
    let parts = and_parts (not (list_any (bytes_eq s) scalars)) (differ scalars) g in
    let away : list_any (bytes_eq s) (scalars ++ rest) ≡ false =
    list_any-append (bytes_eq s) scalars rest ∙ or_from (list_any (bytes_eq s) scalars) (list_any (bytes_eq s) rest) (not-true (list_any (bytes_eq s) scalars) parts.0) (none_turned s rest unlike.0)
    in
    and_from (not (list_any (bytes_eq s) (scalars ++ rest))) (differ (scalars ++ rest)) (not_from_false (list_any (bytes_eq s) (scalars ++ rest)) away) (differ_before scalars rest h parts.1 unlike.1)

-- and the same between two parts of such names
pub differ_between : (front scalars rest : List (List ℕ)) → differ (front ++ rest) ≡ true → differ scalars ≡ true
    → Each (λ s. list_any (λ t. bytes_eq t s) (front ++ rest) ≡ false) scalars → differ ((front ++ scalars) ++ rest) ≡ true
differ_between [] scalars rest h g unlike = differ_before scalars rest h g unlike
differ_between (f ∷ front) scalars rest h g unlike =
    let parts = and_parts (not (list_any (bytes_eq f) (front ++ rest))) (differ (front ++ rest)) h in
    let none = not-true (list_any (bytes_eq f) (front ++ rest)) parts.0 in
    let both = or_parts (list_any (bytes_eq f) front) (list_any (bytes_eq f) rest) (sym (list_any-append (bytes_eq f) front rest) ∙ none) in
    let first : list_any (bytes_eq f) (front ++ scalars) ≡ false =
    list_any-append (bytes_eq f) front scalars ∙ or_from (list_any (bytes_eq f) front) (list_any (bytes_eq f) scalars) both.0 (none_of_them f (front ++ rest) scalars unlike)
    in
    let away : list_any (bytes_eq f) ((front ++ scalars) ++ rest) ≡ false =
    list_any-append (bytes_eq f) (front ++ scalars) rest ∙ or_from (list_any (bytes_eq f) (front ++ scalars)) (list_any (bytes_eq f) rest) first both.1
    in
    let later = each_weaken (λ s. list_any (λ t. bytes_eq t s) (f ∷ front ++ rest) ≡ false) (λ s. list_any (λ t. bytes_eq t s) (front ++ rest) ≡ false)
    (λ s e. (or_parts (bytes_eq f s) (list_any (λ t. bytes_eq t s) (front ++ rest)) e).1) scalars unlike in
    and_from (not (list_any (bytes_eq f) ((front ++ scalars) ++ rest))) (differ ((front ++ scalars) ++ rest)) (not_from_false (list_any (bytes_eq f) ((front ++ scalars) ++ rest)) away)
    (differ_between front scalars rest parts.1 g later)
