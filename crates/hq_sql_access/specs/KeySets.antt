-- Of an EXISTS over a table: the keys of the rows that its WHERE keeps, of which one is asked for (PostgreSQL, hashed sub-plans).
use Rattle.std.specs.Prelude.{◌≡◌, List, [], map, Bool}
use Rattle.std.specs.Borrow.{Bor}
use Rattle.hq_base.specs.Cells.{CellTree}
use Rattle.hq_load_index.specs.Grids.{rows_in}
use Rattle.hq_load_index.specs.Indexes.{IsOver, columns_of, rows_with}
use Rattle.hq_model.specs.Logic.{truth_of}
use Rattle.hq_sql_tree.specs.declared.expr.Expr.{Expr}
use Rattle.hq_sql_tree.specs.Meaning.{Scope as Names, World, truth_at, value}
use Rattle.hq_sql_tree.specs.Tree.{PredTree}
use Rattle.hq_sql_tree.specs.View.{expr_view, pred_view}
use Rattle.hq_sql_access.specs.KeyCells.{key_cell}
use Rattle.hq_sql_access.specs.Sources.{has_items}
use Rattle.hq_sql_access.specs.declared.pinned.KeySet.{KeySet}

-- the key that expressions have in a scope
abbrev pub link_keys : List (Bor Expr) → Names → List CellTree
link_keys es names = map (λ e. key_cell (value (expr_view e.now) [] names)) es

-- whether one of the keys is that of a scope
abbrev pub keeps_key : KeySet → Names → Bool
keeps_key s names = has_items (rows_with (columns_of s.index) (link_keys s.links.items names) (rows_in s.grid))

-- a condition is true exactly where one of the keys is that of the scope, and false elsewhere
pub record IsKeySet (w : World) (p : PredTree) (s : KeySet) : Type 0 where
  pub over : IsOver (rows_in s.grid) s.index
  pub has : (names : Names) → truth_at p w names ≡ truth_of (keeps_key s names)

-- so its own one is
abbrev pub IsOwnSet : World → KeySet → Type 0
IsOwnSet w s = IsKeySet w (pred_view s.pred.now) s
