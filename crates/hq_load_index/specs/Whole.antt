-- Rows with the whole numbers that are their keys.
use Rattle.std.specs.Prelude.{◌≡◌, ℕ, List, [], map, slice_index_or}
use Rattle.hq_base.specs.Cells.{int}
use Rattle.hq_base.specs.Lists.{Each}
use Rattle.hq_base.specs.declared.value.Val.{Val}
use Rattle.hq_load_index.specs.Keys.{cell_in}
use Rattle.hq_load_index.specs.declared.whole.Numbered.{Numbered}

-- its row
abbrev pub row_of : Numbered → ℕ
row_of x = x.row

-- its whole number is the one in the column of its row
abbrev pub HasNumber : (column : ℕ) → List (List Val) → Numbered → Type 0
HasNumber column rows x = cell_in (slice_index_or rows x.row []) column ≡ int x.key

-- these are the rows, and each has its number
pub record AreNumbered (column : ℕ) (rows : List (List Val)) (numbers : List ℕ) (all : List Numbered) : Type 0 where
  pub rows_are : numbers ≡ map row_of all
  pub each : Each (HasNumber column rows) all
