-- Conditions that ask one column of a table for something that constants tell.
use Rattle.std.specs.Prelude.{◌≡◌, ℕ, List, map}
use Rattle.hq_load_index.specs.Keys.{cell_in}
use Rattle.hq_model.specs.Database.{Row}
use Rattle.hq_model.specs.Tests.{test_truth}
use Rattle.hq_model.specs.declared.table.Column.{Column}
use Rattle.hq_model.specs.declared.truth.Truth.{Truth}
use Rattle.hq_sql_cells.specs.View.{cell_view}
use Rattle.hq_sql_tree.specs.Meaning.{Scope as Names, World, named_row, truth_at}
use Rattle.hq_sql_tree.specs.Tree.{PredTree}
use Rattle.hq_sql_constants.specs.declared.plain.ColumnTest.{ColumnTest}

-- what a test of a column says of a row
abbrev pub told : ColumnTest → Row → Truth
told t row = test_truth t.test (cell_in row t.column) (map cell_view t.operands.items)

-- a test says of a row of the table what a condition is where the alias is this row
pub record IsTest (columns : List Column) (alias : List ℕ) (p : PredTree) (t : ColumnTest) : Type 0 where
  pub says : (w : World) (row : Row) (m : Names) → m alias ≡ named_row columns row → truth_at p w m ≡ told t row
