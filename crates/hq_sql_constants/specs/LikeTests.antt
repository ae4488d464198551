-- Conditions that ask one column of a table to be like a pattern (PostgreSQL, LIKE).
use Rattle.std.specs.Prelude.{◌≡◌, ℕ, List}
use Rattle.hq_base.specs.Cells.{text}
use Rattle.hq_load_index.specs.Keys.{cell_in}
use Rattle.hq_model.specs.Database.{Row}
use Rattle.hq_model.specs.Logic.{matched}
use Rattle.hq_model.specs.declared.table.Column.{Column}
use Rattle.hq_model.specs.declared.truth.Truth.{Truth}
use Rattle.hq_sql_tree.specs.Meaning.{Scope as Names, World, named_row, truth_at}
use Rattle.hq_sql_tree.specs.Tree.{PredTree}
use Rattle.hq_sql_constants.specs.declared.like_test.LikeTest.{LikeTest}

-- what a test says of a row: what LIKE says of its cell in the column
abbrev pub told : LikeTest → Row → Truth
told t row = matched t.matcher.now.1 (cell_in row t.column) (text t.matcher.now.0)

-- a test says of a row of the table what a condition is where the alias is this row
pub record IsLikeTest (columns : List Column) (alias : List ℕ) (p : PredTree) (t : LikeTest) : Type 0 where
  pub says : (w : World) (row : Row) (m : Names) → m alias ≡ named_row columns row → truth_at p w m ≡ told t row
