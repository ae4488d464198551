-- The range that a scan in the order of an index looks at (PostgreSQL, index scans: a range of the first column).
use Rattle.std.specs.Prelude.{◌≡◌, ℕ, List, map, Some, bytes_eq}
use Rattle.std.specs.List.{position}
use Rattle.hq_base.specs.declared.value.Val.{Val}
use Rattle.hq_model.specs.declared.table.Column.{Column}
use Rattle.hq_sql_tree.specs.Meaning.{World}
use Rattle.hq_sql_tree.specs.Tree.{FilterTree, PredTree, joins_of}
use Rattle.hq_sql_tree.specs.View.{join_view}
use Rattle.hq_sql_tree.specs.declared.select.Join.{Join}
use Rattle.hq_sql_access.specs.declared.scope.Source.{Source}
use Rattle.hq_sql_scans.specs.Positions.{rows_at}
use Rattle.hq_sql_scans.specs.declared.positions.Positions.{Positions}
use Rattle.hq_sql_constants.specs.Ranged.{AsksRange, HaveSame}
use Rattle.hq_sql_constants.specs.Sifted.{KeepsSame}
use Rattle.hq_sql_constants.specs.declared.ranged.Bound.{Bound}

-- a condition asks a column to be in a range, and of the rows in the range some of the entries of an index have the same as all of them
pub record HasRange (p : PredTree) (alias : List ℕ) (columns : List Column) (rows : List (List Val)) (all some : List ℕ) : Type 0 where
  pub column : ℕ
  pub name : List ℕ
  pub bounds : List Bound
  pub first : position (λ c. bytes_eq c.name name) columns ≡ Some column
  pub asks : AsksRange p alias name bounds
  pub same : HaveSame column rows bounds some all

-- WHERE keeps the same of the rows of a source at the second places as at the first ones, whatever the tables are
abbrev pub KeepsAlike : List Join → (alias : List ℕ) → FilterTree → Source → (positions again : Positions) → Type 0
KeepsAlike joins alias f from positions again = (w : World) → KeepsSame w (joins_of (map join_view joins)) alias f (rows_at from again) (rows_at from positions)
