-- Tests of the rows of a table.
use Rattle.std.specs.Prelude.{◌≡◌, ℕ, List, Bool}
use Rattle.std.specs.List.{list_any}
use Rattle.hq_model.specs.Database.{Row}
use Rattle.hq_model.specs.Logic.{is_true, negated_if, truth_of}
use Rattle.hq_model.specs.declared.table.Column.{Column}
use Rattle.hq_model.specs.declared.truth.Truth.{Truth}
use Rattle.hq_sql_conjuncts.specs.Split.{kept_one}
use Rattle.hq_sql_tree.specs.Meaning.{Scope as Names, World, named_row, truth_at}
use Rattle.hq_sql_tree.specs.Tree.{PredTree}
use Rattle.hq_sql_constants.specs.KeyTests.{row_has}
use Rattle.hq_sql_constants.specs.LikeTests.{told as told_like}
use Rattle.hq_sql_constants.specs.Plain.{told as told_column}
use Rattle.hq_sql_constants.specs.declared.row_test.Atom.{Atom}
use Rattle.hq_sql_constants.specs.declared.row_test.Atom.TheVariants.{Column as OfColumn, Keys, Like}
use Rattle.hq_sql_constants.specs.declared.row_test.RowTest.{RowTest}

-- what is told of a row
abbrev pub told_by : Atom → Row → Truth
told_by (OfColumn t) row = told_column t row
told_by (Like t) row = told_like t row
told_by (Keys t) row = truth_of (row_has t.set.now t.columns.items row)

-- what a test says of a row
abbrev pub told : RowTest → Row → Truth
told t row = negated_if t.negated (told_by t.atom row)

-- whether one of them is true of a row
abbrev pub one_holds : List RowTest → Row → Bool
one_holds ts row = list_any (λ t. is_true (told t row)) ts

-- what is told of a row of the table is what a condition is where the alias is this row
pub record IsAtom (w : World) (columns : List Column) (alias : List ℕ) (p : PredTree) (a : Atom) : Type 0 where
  pub says : (row : Row) (m : Names) → m alias ≡ named_row columns row → truth_at p w m ≡ told_by a row

-- a test says of a row of the table what a condition is where the alias is this row
pub record IsTest (w : World) (columns : List Column) (alias : List ℕ) (p : PredTree) (t : RowTest) : Type 0 where
  pub says : (row : Row) (m : Names) → m alias ≡ named_row columns row → truth_at p w m ≡ told t row

-- a condition is true where the alias is a row of the table exactly where one of these tests is
pub record AreTests (w : World) (columns : List Column) (alias : List ℕ) (p : PredTree) (ts : List RowTest) : Type 0 where
  pub keeps : (row : Row) (m : Names) → m alias ≡ named_row columns row → kept_one p w m ≡ one_holds ts row
