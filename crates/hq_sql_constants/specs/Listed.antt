-- The values of which a condition asks a column to be one (PostgreSQL, IN, OR of equations, and hashed sub-plans).
use Rattle.std.specs.Prelude.{◌≡◌, List, map, Bool, true, ℕ, slice_index_or}
use Rattle.std.specs.List.{list_any}
use Rattle.hq_base.specs.Cells.{CellTree, cell_of}
use Rattle.hq_base.specs.declared.value.Val.{Val}
use Rattle.hq_base.specs.declared.value.Val.TheVariants as val
use Rattle.hq_model.specs.Logic.{equal, is_true}
use Rattle.hq_model.specs.Tests.{test_truth}
use Rattle.hq_model.specs.declared.test.Test.{Test}
use Rattle.hq_model.specs.declared.truth.Truth.TheVariants.{Yes}
use Rattle.hq_sql_tree.specs.Meaning.{Scope as Names, World, cell_named, truth_at}
use Rattle.hq_sql_tree.specs.Tree.{PredTree}
use Rattle.hq_sql_access.specs.KeySets.{keeps_key}
use Rattle.hq_sql_access.specs.declared.pinned.KeySet.{KeySet}

-- a test is true only of a cell that equals one of its operands
pub record IsOfOne (t : Test) : Type 0 where
  pub one : (c : CellTree) (ds : List CellTree) → test_truth t c ds ≡ Yes → list_any (λ d. is_true (equal c d)) ds ≡ true

-- a cell equals one of these values
abbrev pub is_one_of : List Val → CellTree → Bool
is_one_of vs c = list_any (λ v. is_true (equal c (cell_of v))) vs

-- where the condition is true over these tables, the cell of this name of the alias equals one of these values
pub record AsksOneOf (w : World) (p : PredTree) (alias name : List ℕ) (vs : List Val) : Type 0 where
  pub asks : (m : Names) → truth_at p w m ≡ Yes → is_one_of vs (cell_named (m alias) name) ≡ true

-- a key that is one of a set's is one of these values in a column of the alias
pub record AreKeys (s : KeySet) (alias name : List ℕ) (vs : List Val) : Type 0 where
  pub are : (m : Names) → keeps_key s m ≡ true → is_one_of vs (cell_named (m alias) name) ≡ true

-- the values that rows have in a column
abbrev pub values_in : (column : ℕ) → List (List Val) → List Val
values_in column rows = map (λ row. slice_index_or row column val.Null) rows
