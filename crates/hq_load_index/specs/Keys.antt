-- Keys: the cells of a row in some columns, and their order (PostgreSQL, B-tree indexes, ascending).
use Rattle.std.specs.Prelude.{ℕ, List, [], map, Bool, not, ◌&&◌, slice_index_or}
use Rattle.std.specs.List.{list_any}
use Rattle.std.specs.declared.cmp.Ordering.{Ordering}
use Rattle.std.specs.Ordering.{is_eq}
use Rattle.std.specs.Cmp.Lexicographic.{slice_cmp}
use Rattle.hq_base.specs.Cells as cell
use Rattle.hq_base.specs.Cells.{CellTree, cell_of, cell_cmp}
use Rattle.hq_base.specs.declared.value.Val.{Val}
use Rattle.hq_base.specs.declared.value.Val.TheVariants as val
use Rattle.hq_model.specs.Logic.{null_test}
use Rattle.hq_load_index.specs.declared.key.KeyCell.{KeyCell}
use Rattle.hq_load_index.specs.declared.key.KeyCell.TheVariants.{Null, Int, Text, Bool as Truth}

-- the cell, wherever its text lies
abbrev pub cell_view : KeyCell → CellTree
cell_view Null = cell.null
cell_view (Int n) = cell.int n
cell_view (Text t) = cell.text t.now
cell_view (Truth b) = cell.bool b

-- the cell of a row in a column, NULL where the row has none
abbrev pub cell_in : List Val → ℕ → CellTree
cell_in row column = cell_of (slice_index_or row column val.Null)

-- the cells of a row in columns
abbrev pub key_in : (columns : List ℕ) → List Val → List CellTree
key_in columns row = map (cell_in row) columns

-- the order of keys: the first cell that differs decides
abbrev pub keys_cmp : List CellTree → List CellTree → Ordering
keys_cmp = slice_cmp cell_cmp

-- a key with a NULL
abbrev pub has_null : List CellTree → Bool
has_null = list_any null_test

-- whether a row has a key in these columns: a key with a NULL is no row's
abbrev pub has_key : (columns : List ℕ) → List CellTree → List Val → Bool
has_key columns key row = not (has_null key) && is_eq (keys_cmp (key_in columns row) key)

-- the key of the row of this number
abbrev pub key_at : (columns : List ℕ) → List (List Val) → ℕ → List CellTree
key_at columns rows n = key_in columns (slice_index_or rows n [])
