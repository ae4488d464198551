-- Expressions that are columns of FROM's table, by the numbers of the columns.
use Rattle.std.specs.Prelude.{◌≡◌, ℕ, List, [], ◌∷◌, map, Option, IfSome}
use Rattle.hq_load_index.specs.Keys.{cell_in}
use Rattle.hq_model.specs.Database.{Row}
use Rattle.hq_sql_tree.specs.declared.expr.Order.{Order}
use Rattle.hq_sql_tree.specs.Meaning.{Scope as Names, World, value}
use Rattle.hq_sql_tree.specs.Tree.{ExprTree, JoinTrees}
use Rattle.hq_sql_tree.specs.View.{order_view}
use Rattle.hq_sql_access.specs.View.{names_at, values_in}
use Rattle.hq_sql_access.specs.declared.place.JoinedRow.{JoinedRow}
use Rattle.hq_sql_access.specs.declared.scope.Source.{Source}

-- the expressions of sort keys
abbrev pub key_exprs : List Order → List ExprTree
key_exprs os = map (λ o. (order_view o).value) os

-- each of these expressions that is given a column is the cell of the row in it
abbrev pub AreCells : List ExprTree → List (Option ℕ) → Row → Names → Type 0
AreCells [] own row names = Unit {0}
AreCells (e ∷ es) [] row names = Unit {0}
AreCells (e ∷ es) (c ∷ own) row names = IfSome c (λ at. value e [] names ≡ cell_in row at) × AreCells es own row names

-- an expression at each place of a FROM is the cell of the table's row in this column
pub record IsCellOf (from : Source) (alias : List ℕ) (js : JoinTrees) (e : ExprTree) (at : ℕ) : Type 0 where
  pub cell : (w : World) (n : Names) (place : JoinedRow) → value e [] (names_at from alias js w n place) ≡ cell_in (values_in from place.position) at

-- the same of expressions, each where it is given a column
pub record AreCellsOf (from : Source) (alias : List ℕ) (js : JoinTrees) (es : List ExprTree) (own : List (Option ℕ)) : Type 0 where
  pub cells : (w : World) (n : Names) (place : JoinedRow) → AreCells es own (values_in from place.position) (names_at from alias js w n place)
