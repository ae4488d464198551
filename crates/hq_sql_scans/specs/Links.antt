-- What conditions ask the columns of an alias to equal, exactly.
use Rattle.std.specs.Prelude.{◌≡◌, ℕ, List, [], length, Bool, not, ◌&&◌}
use Rattle.std.specs.Borrow.{Bor}
use Rattle.std.specs.Ordering.{is_eq}
use Rattle.hq_base.specs.Cells.{CellTree, cell_cmp}
use Rattle.hq_model.specs.Database.{Row}
use Rattle.hq_model.specs.Logic.{null_test}
use Rattle.hq_model.specs.declared.table.Column.{Column}
use Rattle.hq_load_index.specs.Keys.{cell_in, has_key}
use Rattle.hq_sql_conjuncts.specs.Conjuncts.{all_kept}
use Rattle.hq_sql_conjuncts.specs.Split.{kept_one}
use Rattle.hq_sql_tree.specs.declared.expr.Expr.{Expr}
use Rattle.hq_sql_tree.specs.Meaning.{Scope as Names, World, named_row, value, with_alias}
use Rattle.hq_sql_tree.specs.Tree.{ExprTree, PredTree}
use Rattle.hq_sql_access.specs.KeyCells.{key_cell}
use Rattle.hq_sql_access.specs.KeySets.{link_keys}

-- a cell is that of a key
abbrev pub has_cell : (cell key : CellTree) → Bool
has_cell cell key = not (null_test key) && is_eq (cell_cmp cell key)

-- an expression is this column of the alias
pub record IsOwn (columns : List Column) (alias : List ℕ) (own : ExprTree) (at : ℕ) : Type 0 where
  pub cell : (row : Row) (m : Names) → m alias ≡ named_row columns row → value own [] m ≡ cell_in row at

-- a condition keeps a row exactly where its cell in this column is that of the expression
pub record IsLink (columns : List Column) (alias : List ℕ) (p : PredTree) (at : ℕ) (e : ExprTree) : Type 0 where
  pub keeps : (w : World) (row : Row) (names : Names) → kept_one p w (with_alias names alias (named_row columns row)) ≡ has_cell (cell_in row at) (key_cell (value e [] names))

-- conditions keep a row exactly where it has the key of these expressions in these columns
pub record AreLinks (columns : List Column) (alias : List ℕ) (ps : List PredTree) (own : List ℕ) (links : List (Bor Expr)) : Type 0 where
  pub long : length own ≡ length links
  pub keeps : (w : World) (row : Row) (names : Names) → all_kept ps w (with_alias names alias (named_row columns row)) ≡ has_key own (link_keys links names) row
