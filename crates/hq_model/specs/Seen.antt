-- What is seen of a database: the one argument over which truth, related rows and selected rows are defined.
use Rattle.std.specs.Prelude.{ℕ, List, [], ◌∷◌, Bool, true, ◌&&◌, slice_index_or}
use Rattle.hq_base.specs.Cells.{CellTree, cell_of}
use Rattle.hq_base.specs.declared.value.Val.TheVariants as val
use Rattle.hq_model.specs.declared.meta.Pair.{Pair}
use Rattle.hq_model.specs.Logic.{is_true, equal}
use Rattle.hq_model.specs.Database.{Row}
use Rattle.hq_model.specs.Schema.{Schema, rel}

-- R stands for a row. For each table the rows that count, in order; the cell of a row in a column; and whether a row
-- of the remote table of a relationship is linked to a row
pub record Sees (R : Type 0) : Type 0 where
  pub rows : (table : ℕ) → List R
  pub cell : (table : ℕ) → R → (column : ℕ) → CellTree
  pub linked : (table relationship : ℕ) → (own remote : R) → Bool

-- the rows of a table in file order; none beyond the database
abbrev pub table_rows : List (List Row) → ℕ → List Row
table_rows d t = slice_index_or d t []

-- the cell of a row; NULL beyond its columns
abbrev pub row_cell : Row → ℕ → CellTree
row_cell row c = cell_of (slice_index_or row c val.Null)

-- a remote row is linked to a row where the cells of each pair are equal, and so not NULL (Hasura, relationships)
abbrev pub linked_by : List Pair → (own remote : Row) → Bool
linked_by [] row far = true
linked_by (p ∷ ps) row far = is_true (equal (row_cell far p.remote) (row_cell row p.own)) && linked_by ps row far

-- all of a database: permission filters and masks are taken over this
abbrev pub all_of : Schema → List (List Row) → Sees Row
all_of s d = record {
  rows = table_rows d;
  cell = λ t row c. row_cell row c;
  linked = λ t r. linked_by (rel s t r).pairs;
}
