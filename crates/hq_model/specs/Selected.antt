-- The rows of a list (Hasura, Queries: filter, sort, distinct and paginate; PostgreSQL, SELECT: ORDER BY, DISTINCT ON,
-- LIMIT and OFFSET).
use Rattle.std.specs.Prelude.{ℕ, List, [], ◌∷◌, filter, map, take, drop, min, Bool, true, false, ◌&&◌, Option, Some, None, option_map, unwrap_or}
use Rattle.std.specs.declared.cmp.Ordering.{Ordering}
use Rattle.std.specs.declared.cmp.Ordering.TheVariants.{Equal}
use Rattle.std.specs.Ordering.{on, then_cmp}
use Rattle.hq_base.specs.Cells.{CellTree, null, key_cmp, same_cell}
use Rattle.hq_base.specs.Lists.{sort, firsts}
use Rattle.hq_model.specs.Bexp.{BexpTree}
use Rattle.hq_model.specs.Related.{related_first}
use Rattle.hq_model.specs.Schema.{Schema, rel}
use Rattle.hq_model.specs.Seen.{Sees}
use Rattle.hq_model.specs.Truth.{keeps}

-- an entry of order_by: a column at the end of object relationships, the direction, and the place of NULLs
pub record SortKey : Type 0 where
  pub through : List ℕ
  pub column : ℕ
  pub desc : Bool
  pub nulls_first : Bool

-- the arguments of a list: where, order_by, distinct_on, limit and offset
pub record ListArguments : Type 0 where
  pub wanted : BexpTree
  pub sorts : List SortKey
  pub distinct : List ℕ
  pub limit : Option ℕ
  pub offset : Option ℕ

-- the cell that a row is sorted by: through each relationship that of the first related row, NULL where there is none
abbrev pub sort_cell : {R : Type 0} → (through : List ℕ) → Schema → Sees R → ℕ → (column : ℕ) → R → CellTree
sort_cell [] s S t c x = S.cell t x c
sort_cell (r ∷ rs) s S t c x = unwrap_or (option_map (sort_cell rs s S (rel s t r).remote c) (related_first s S t r x)) null

-- the order of rows by these entries, one after the other
abbrev pub sorts_cmp : {R : Type 0} → List SortKey → Schema → Sees R → ℕ → R → R → Ordering
sorts_cmp [] s S t x y = Equal
sorts_cmp (k ∷ ks) s S t x y =
    then_cmp (on (sort_cell k.through s S t k.column) (key_cmp k.desc k.nulls_first)) (sorts_cmp ks s S t) x y

-- columns as entries: ascending, NULLs last
abbrev pub ascending : List ℕ → List SortKey
ascending = map (λ c. record { through = []; column = c; desc = false; nulls_first = false })

-- these entries, and the others where these are none
abbrev pub sorts_or : List SortKey → List SortKey → List SortKey
sorts_or [] others = others
sorts_or (k ∷ ks) others = k ∷ ks

-- the entries that count: with none in order_by, those of the distinct columns
abbrev pub entries : ListArguments → List SortKey
entries a = sorts_or a.sorts (ascending a.distinct)

-- two rows have the same cells in these columns, NULL like NULL
abbrev pub same_cells : {R : Type 0} → List ℕ → Sees R → ℕ → R → R → Bool
same_cells [] S t x y = true
same_cells (c ∷ cs) S t x y = same_cell (S.cell t x c) (S.cell t y c) && same_cells cs S t x y

-- with distinct columns the first row of each group
abbrev pub distinct_rows : {R : Type 0} → List ℕ → Sees R → ℕ → List R → List R
distinct_rows [] S t xs = xs
distinct_rows (c ∷ cs) S t xs = firsts (same_cells (c ∷ cs) S t) xs

-- without the first rows
abbrev pub offset_by : {A : Type 0} → Option ℕ → List A → List A
offset_by None xs = xs
offset_by (Some n) xs = drop n xs

-- at most so many rows
abbrev pub limited : {A : Type 0} → Option ℕ → List A → List A
limited None xs = xs
limited (Some n) xs = take n xs

-- the smaller of two limits
abbrev pub smaller : Option ℕ → Option ℕ → Option ℕ
smaller None b = b
smaller (Some a) None = Some a
smaller (Some a) (Some b) = Some (min a b)

-- the selected rows of those that a list starts with, before offset and limit: those at which where is true, sorted
-- stably, the first of each group
abbrev pub ordered : {R : Type 0} → Schema → Sees R → ℕ → ListArguments → List R → List R
ordered s S t a start = distinct_rows a.distinct S t (sort (sorts_cmp (entries a) s S t) (filter (keeps a.wanted s S t) start))

-- the selected rows under a limit of the list's own and one of the permission's
abbrev pub selected : {R : Type 0} → Schema → Sees R → ℕ → ListArguments → (permission_limit : Option ℕ) → List R → List R
selected s S t a permission_limit start =
    limited (smaller a.limit permission_limit) (offset_by a.offset (ordered s S t a start))
