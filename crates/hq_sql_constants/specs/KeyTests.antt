-- Conditions of which keys are known, where they ask for the key of a row of a table.
use Rattle.std.specs.Prelude.{◌≡◌, ℕ, List, Bool}
use Rattle.std.specs.Borrow.{Bor}
use Rattle.hq_load_index.specs.Keys.{key_in}
use Rattle.hq_model.specs.Database.{Row}
use Rattle.hq_model.specs.Logic.{truth_of}
use Rattle.hq_model.specs.declared.table.Column.{Column}
use Rattle.hq_sql_access.specs.KeySets.{link_keys}
use Rattle.hq_sql_access.specs.declared.pinned.KeySet.{KeySet}
use Rattle.hq_sql_scans.specs.ChosenKeys.{is_key}
use Rattle.hq_sql_tree.specs.Meaning.{Scope as Names, World, named_row, truth_at}
use Rattle.hq_sql_tree.specs.Tree.{PredTree}
use Rattle.hq_sql_tree.specs.declared.expr.Expr.{Expr}

-- the key of expressions is that of a row of the table in these columns, where the alias is this row
pub record AreOwn (columns : List Column) (alias : List ℕ) (links : List (Bor Expr)) (own : List ℕ) : Type 0 where
  pub key : (row : Row) (m : Names) → m alias ≡ named_row columns row → link_keys links m ≡ key_in own row

-- whether one of the keys is the one that a row has in these columns
abbrev pub row_has : KeySet → (own : List ℕ) → Row → Bool
row_has s own row = is_key s (key_in own row)

-- a condition is true where the alias is a row of the table that has one of the keys, and false where it is another row of it
pub record IsKeyTest (w : World) (columns : List Column) (alias : List ℕ) (p : PredTree) (s : KeySet) (own : List ℕ) : Type 0 where
  pub says : (row : Row) (m : Names) → m alias ≡ named_row columns row → truth_at p w m ≡ truth_of (row_has s own row)
