-- Rows beside cells that were taken once: the keys of ORDER BY, and the values of DISTINCT ON (PostgreSQL, SELECT).
use Rattle.std.specs.Prelude.{List, [], ◌∷◌, map, Bool, true, false, ◌&&◌}
use Rattle.std.specs.declared.cmp.Ordering.{Ordering}
use Rattle.std.specs.declared.cmp.Ordering.TheVariants.{Equal}
use Rattle.std.specs.Ordering.{on, then_cmp}
use Rattle.hq_base.specs.Cells.{CellTree, key_cmp, same_cell}
use Rattle.hq_base.specs.Aggregates.{first_cell}
use Rattle.hq_sql_cells.specs.View.{cell_view}
use Rattle.hq_sql_cells.specs.declared.order.Direction.{Direction}
use Rattle.hq_sql_cells.specs.declared.kept.Kept.{Kept}

-- the cells behind the first one
abbrev pub other_cells : List CellTree → List CellTree
other_cells [] = []
other_cells (c ∷ cs) = cs

-- the order of rows of keys: the first key that differs decides. Where a row has fewer keys than there are directions,
-- NULLs stand for the rest
abbrev pub keys_cmp : List Direction → List CellTree → List CellTree → Ordering
keys_cmp [] = λ xs ys. Equal
keys_cmp (d ∷ ds) = then_cmp (on first_cell (key_cmp d.desc d.nulls_first)) (on other_cells (keys_cmp ds))

-- two rows of values are not distinct: they are as long, and so is no value from the one at its place, NULL being like
-- NULL
abbrev pub same_cells : List CellTree → List CellTree → Bool
same_cells [] [] = true
same_cells [] (y ∷ ys) = false
same_cells (x ∷ xs) [] = false
same_cells (x ∷ xs) (y ∷ ys) = same_cell x y && same_cells xs ys

-- the sort keys of a kept row, and its values of DISTINCT ON
abbrev pub keys_of : {T : Type 0} → Kept T → List CellTree
keys_of row = map cell_view row.keys.items

abbrev pub distinct_of : {T : Type 0} → Kept T → List CellTree
distinct_of row = map cell_view row.distinct.items

-- two kept rows are of one group of DISTINCT ON
abbrev pub same_group : {T : Type 0} → Kept T → Kept T → Bool
same_group x y = same_cells (distinct_of x) (distinct_of y)
