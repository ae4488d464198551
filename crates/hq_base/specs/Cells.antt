-- Cells and their order (PostgreSQL, comparison operators and ORDER BY, with COLLATE "C").
use Rattle.std.specs.Prelude.{ℕ, ℤ, pos, List, [], Bool, false, cond}
use Rattle.std.specs.declared.cmp.Ordering.{Ordering}
use Rattle.std.specs.Ordering.{nat_cmp, int_cmp, bool_cmp, on, then_cmp, flip_args, is_eq}
use Rattle.std.specs.Cmp.Lexicographic.{slice_cmp}
use Rattle.hq_base.specs.Json.{JsonTree}
use Rattle.hq_base.specs.Json as tree
use Rattle.hq_base.specs.declared.value.Val.{Val}
use Rattle.hq_base.specs.declared.value.Val.TheVariants as val

-- a cell without where it lies in memory: NULL, a whole number, a text, a truth value, or JSON
pub data CellTree : Type 0 where
  null : CellTree
  int : ℤ → CellTree
  text : List ℕ → CellTree
  bool : Bool → CellTree
  json : JsonTree → CellTree

-- the cell of a value
abbrev pub cell_of : Val → CellTree
cell_of val.Null = null
cell_of (val.Int n) = int n
cell_of (val.Text s) = text s
cell_of (val.Bool b) = bool b

-- the JSON of a cell
abbrev pub json_of : CellTree → JsonTree
json_of null = tree.null
json_of (int n) = tree.int n
json_of (text s) = tree.str s
json_of (bool b) = tree.bool b
json_of (json j) = j

-- the order of cells, by kind and then by value: whole numbers by value, texts by their bytes, false before true
abbrev pub kind_of : CellTree → ℕ
kind_of null = 0
kind_of (int n) = 1
kind_of (text s) = 2
kind_of (bool b) = 3
kind_of (json j) = 4

abbrev pub int_in : CellTree → ℤ
int_in (int n) = n
int_in _ = pos 0

abbrev pub text_in : CellTree → List ℕ
text_in (text s) = s
text_in _ = []

abbrev pub bool_in : CellTree → Bool
bool_in (bool b) = b
bool_in _ = false

abbrev pub cell_cmp : CellTree → CellTree → Ordering
cell_cmp = then_cmp (on kind_of nat_cmp) (then_cmp (on int_in int_cmp) (then_cmp (on text_in (slice_cmp nat_cmp)) (on bool_in bool_cmp)))

-- where NULLs stand: before the rest, or behind it
abbrev pub null_rank : (nulls_first : Bool) → CellTree → ℕ
null_rank nulls_first null = cond nulls_first 0 1
null_rank nulls_first _ = cond nulls_first 1 0

-- the order of one sort key
abbrev pub key_cmp : (desc nulls_first : Bool) → CellTree → CellTree → Ordering
key_cmp desc nulls_first = then_cmp (on (null_rank nulls_first) nat_cmp) (cond desc (flip_args cell_cmp) cell_cmp)

-- whether two cells are not distinct: NULL is like NULL
abbrev pub same_cell : CellTree → CellTree → Bool
same_cell a b = is_eq (cell_cmp a b)
