-- The keys of a table's rows differ and hold no NULL, so rows in key order compare by their places alone.
use Rattle.std.proofs.Common.{◌≡◌, ℕ, zero, suc, List, [], ◌∷◌, length, map, Bool, true, false, not, ◌||◌, refl, sym, ap, ◌∙◌, arith, Ordering, Less, Equal, Greater}
use Rattle.std.specs.Prelude.{slice_index_or, slice_get}
use Rattle.std.specs.List.{list_all, list_any}
use Rattle.std.specs.Cmp.{IsTotalOrder}
use Rattle.std.specs.Ordering.{nat_cmp, is_eq, ordering_reverse, ordering_then}
use Rattle.std.proofs.lemmas.Cmp.{on_total, then_total}
use Rattle.hq_base.specs.Aggregates.{is_counted}
use Rattle.hq_base.specs.Cells.{CellTree, null, int, text, bool, json, cell_of, cell_cmp, key_cmp, null_rank, same_cell}
use Rattle.hq_base.specs.Lists.{Each, all_differ}
use Rattle.hq_base.proofs.Orders.{key_cmp_total}
use Rattle.hq_base.specs.declared.value.Val.{Val}
use Rattle.hq_base.specs.declared.value.Val.TheVariants as val
use Rattle.hq_base.specs.Types.{is_ordered}
use Rattle.hq_model.specs.Catalog.{is_catalog, is_table, is_key_column}
use Rattle.hq_model.specs.Database.{Row, value_fits, row_fits, key_of, same_values, are_rows, is_database}
use Rattle.hq_model.specs.Meta.{MetaTree}
use Rattle.hq_model.specs.Permitted.{columns_cmp}
use Rattle.hq_model.specs.Schema.{Schema, schema_table, numbered, schema_of, table}
use Rattle.hq_model.specs.Seen.{row_cell, table_rows}
use Rattle.hq_model.specs.declared.table.Column.{Column}
use Rattle.hq_model.specs.declared.table.Table.{Table}
use Rattle.hq_translation.proofs.Sound.{both, negated}
use Rattle.hq_laws_confine.proofs.Meaning.Orders.{Diff, Apart, Rising, none_total, self_equal}

pub columns_total : (cs : List ℕ) → IsTotalOrder (columns_cmp cs)
columns_total [] = none_total
columns_total (c ∷ cs) = then_total (on_total (λ row. row_cell row c) (key_cmp_total false false)) (columns_total cs)

-- ---- keys that differ

eq_first : (p q : Ordering) → is_eq (ordering_then p q) ≡ true → is_eq p ≡ true
eq_first Less q h = h
eq_first Equal q h = refl
eq_first Greater q h = h

eq_second : (p q : Ordering) → is_eq (ordering_then p q) ≡ true → is_eq q ≡ true
eq_second Less q h = absurd cc
eq_second Equal q h = h
eq_second Greater q h = absurd cc

-- rows that are equal by columns have the same values there
same_by : (cs : List ℕ) (x y : Row) → is_eq (columns_cmp cs x y) ≡ true → same_values (map (λ c. slice_index_or x c val.Null) cs) (map (λ c. slice_index_or y c val.Null) cs) ≡ true
same_by [] x y h = refl
same_by (c ∷ cs) x y h =
    let first = eq_first (key_cmp false false (row_cell x c) (row_cell y c)) (columns_cmp cs x y) h in
    let same : same_cell (row_cell x c) (row_cell y c) ≡ true = eq_second (nat_cmp (null_rank false (row_cell x c)) (null_rank false (row_cell y c))) (cell_cmp (row_cell x c) (row_cell y c)) first in
    rw same (same_by cs x y (eq_second (key_cmp false false (row_cell x c) (row_cell y c)) (columns_cmp cs x y) h))

differ_one : (t : Table) (x : Row) (ys : List Row) → list_any (λ y. same_values (key_of t x) (key_of t y)) ys ≡ false → Each (Diff (columns_cmp t.key) x) ys
differ_one t x [] h = tt
differ_one t x (y ∷ ys) h =
    let split : (a b : Bool) → (a || b) ≡ false → (a ≡ false) × (b ≡ false) = elim [ true ↦ λ b k. absurd cc | false ↦ λ b k. (refl, k) ] in
    let parts = split (same_values (key_of t x) (key_of t y)) (list_any (λ z. same_values (key_of t x) (key_of t z)) ys) h in
    let go : (b : Bool) → is_eq (columns_cmp t.key x y) ≡ b → b ≡ false = elim [ true ↦ λ e. absurd (let yes = same_by t.key x y e in let no = parts.0 in cc) | false ↦ λ e. refl ] in
    (go (is_eq (columns_cmp t.key x y)) refl, differ_one t x ys parts.1)

keys_differ : (t : Table) (rows : List Row) → all_differ (λ x y. same_values (key_of t x) (key_of t y)) rows ≡ true → Apart (columns_cmp t.key) rows
keys_differ t [] h = tt
keys_differ t (x ∷ xs) h =
    let parts = both (not (list_any (λ y. same_values (key_of t x) (key_of t y)) xs)) (all_differ (λ a b. same_values (key_of t a) (key_of t b)) xs) h in
    (differ_one t x xs (negated _ parts.0), keys_differ t xs parts.1)

-- ---- keys that hold no NULL

abbrev pub Full : List ℕ → Row → Type 0
Full ks row = Each (λ c. is_counted (row_cell row c) ≡ true) ks

fits_counted : (c : Column) (v : Val) → not c.nullable ≡ true → value_fits c v ≡ true → is_counted (cell_of v) ≡ true
fits_counted c val.Null h f = absurd (let no = negated c.nullable h in cc)
fits_counted c (val.Int n) h f = refl
fits_counted c (val.Text s) h f = refl
fits_counted c (val.Bool b) h f = refl

full_at : (columns : List Column) (row : Row) (c : ℕ) → row_fits columns row ≡ true → is_key_column (slice_get columns c) ≡ true → is_counted (row_cell row c) ≡ true
full_at [] row c f h = absurd cc
full_at (x ∷ columns) [] c f h = absurd cc
full_at (x ∷ columns) (v ∷ row) zero f h = fits_counted x v (both (not x.nullable) (is_ordered x.ty) h).0 (both (value_fits x v) (row_fits columns row) f).0
full_at (x ∷ columns) (v ∷ row) (suc c) f h = full_at columns row c (both (value_fits x v) (row_fits columns row) f).1 h

full_row : (columns : List Column) (row : Row) (key : List ℕ) → row_fits columns row ≡ true → list_all (λ c. is_key_column (slice_get columns c)) key ≡ true → Full key row
full_row columns row [] f h = tt
full_row columns row (c ∷ key) f h =
    let parts = both (is_key_column (slice_get columns c)) (list_all (λ d. is_key_column (slice_get columns d)) key) h in
    (full_at columns row c f parts.0, full_row columns row key f parts.1)

full_rows : (columns : List Column) (rows : List Row) (key : List ℕ) → list_all (row_fits columns) rows ≡ true → list_all (λ c. is_key_column (slice_get columns c)) key ≡ true → Each (Full key) rows
full_rows columns [] key f h = tt
full_rows columns (r ∷ rs) key f h = let parts = both (row_fits columns r) (list_all (row_fits columns) rs) f in (full_row columns r key parts.0 h, full_rows columns rs key parts.1 h)

-- the columns of a table's key hold no NULL
key_holds : (all : List Table) (t : Table) → is_table all t ≡ true → list_all (λ c. is_key_column (slice_get t.columns c)) t.key ≡ true
key_holds all t h = (both _ _ (both _ _ h).0).1

-- ---- the tables of a database

-- keys differ, and hold no NULL
pub record Keyed (s : Schema) (d : List (List Row)) (t : ℕ) : Type 0 where
  pub apart : Apart (columns_cmp (table s t).key) (table_rows d t)
  pub full : Each (Full (table s t).key) (table_rows d t)

keyed_from : (meta : MetaTree) (all : List Table) (k : ℕ) (tables : List Table) (d : List (List Row)) (t : ℕ)
    → list_all (is_table all) tables ≡ true → is_database tables d ≡ true → Keyed (numbered (schema_table meta) k tables) d t
keyed_from meta all k [] [] t c e = record { apart = tt; full = tt }
keyed_from meta all k [] (rs ∷ d) t c e = absurd cc
keyed_from meta all k (x ∷ tables) [] t c e = absurd cc
keyed_from meta all k (x ∷ tables) (rs ∷ d) zero c e =
    let rows = (both (are_rows x rs) (is_database tables d) e).0 in
    let fits = (both _ _ rows).0 in
    record {
      apart = keys_differ x rs (both _ _ rows).1;
      full = full_rows x.columns rs x.key (both _ _ fits).1 (key_holds all x (both (is_table all x) (list_all (is_table all) tables) c).0);
    }
keyed_from meta all k (x ∷ tables) (rs ∷ d) (suc t) c e =
    let rest = keyed_from meta all (suc k) tables d t (both (is_table all x) (list_all (is_table all) tables) c).1 (both (are_rows x rs) (is_database tables d) e).1 in
    record { apart = rest.apart; full = rest.full }

pub keyed_of : (meta : MetaTree) (tables : List Table) (d : List (List Row)) (t : ℕ) → is_catalog tables ≡ true → is_database tables d ≡ true → Keyed (schema_of tables meta) d t
keyed_of meta tables d t c e = keyed_from meta tables 0 tables d t (both _ _ c).1 e

-- ---- places in key order

less_null : (c : CellTree) → is_counted c ≡ true → key_cmp false false c null ≡ Less
less_null null h = cc
less_null (int n) h = refl
less_null (text t) h = refl
less_null (bool b) h = refl
less_null (json j) h = refl

before_null : (ks : List ℕ) (x y : Row) → Full ks x → Full ks y → columns_cmp ks x [] ≡ columns_cmp ks y []
before_null [] x y h g = refl
before_null (k ∷ ks) x y h g =
    ap (λ p. ordering_then p (columns_cmp ks x [])) (less_null (row_cell x k) h.0) ∙ sym (ap (λ p. ordering_then p (columns_cmp ks y [])) (less_null (row_cell y k) g.0))

front_order : (ks : List ℕ) (x y : Row) → Full ks x → Full ks y → (xs ys : List Row) → length xs ≡ length ys
    → Each (λ z. columns_cmp ks x z ≡ Less) xs → Each (λ z. columns_cmp ks y z ≡ Less) ys → (q : ℕ)
    → columns_cmp ks x (slice_index_or xs q []) ≡ columns_cmp ks y (slice_index_or ys q [])
front_order ks x y fx fy [] [] l h g q = before_null ks x y fx fy
front_order ks x y fx fy [] (z ∷ zs) l h g q = absurd (omega arith)
front_order ks x y fx fy (u ∷ us) [] l h g q = absurd (omega arith)
front_order ks x y fx fy (u ∷ us) (z ∷ zs) l h g zero = h.0 ∙ sym g.0
front_order ks x y fx fy (u ∷ us) (z ∷ zs) l h g (suc q) = front_order ks x y fx fy us zs (omega arith) h.1 g.1 q

-- two rising lists of one length compare alike, place by place, and beyond
pub same_order : (ks : List ℕ) (xs ys : List Row) → length xs ≡ length ys → Rising (columns_cmp ks) xs → Rising (columns_cmp ks) ys → Each (Full ks) xs → Each (Full ks) ys → (p q : ℕ)
    → columns_cmp ks (slice_index_or xs p []) (slice_index_or xs q []) ≡ columns_cmp ks (slice_index_or ys p []) (slice_index_or ys q [])
same_order ks [] [] l h g f e p q = refl
same_order ks [] (z ∷ zs) l h g f e p q = absurd (omega arith)
same_order ks (x ∷ xs) [] l h g f e p q = absurd (omega arith)
same_order ks (x ∷ xs) (y ∷ ys) l h g f e zero zero = self_equal (columns_total ks) x ∙ sym (self_equal (columns_total ks) y)
same_order ks (x ∷ xs) (y ∷ ys) l h g f e zero (suc q) = front_order ks x y f.0 e.0 xs ys (omega arith) h.0 g.0 q
same_order ks (x ∷ xs) (y ∷ ys) l h g f e (suc p) zero =
    (columns_total ks).antisymm (slice_index_or xs p []) x ∙ ap ordering_reverse (front_order ks x y f.0 e.0 xs ys (omega arith) h.0 g.0 p)
    ∙ sym ((columns_total ks).antisymm (slice_index_or ys p []) y)
same_order ks (x ∷ xs) (y ∷ ys) l h g f e (suc p) (suc q) = same_order ks xs ys (omega arith) h.1 g.1 f.1 e.1 p q
