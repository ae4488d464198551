-- A json_agg whose rows stand in its order already: it is the list of one output, row by row.
use Rattle.std.specs.Prelude.{◌≡◌, ◌+◌, ℕ, List, [], ◌∷◌, ◌++◌, map, cond, bytes_eq, Option, Some, None}
use Rattle.hq_base.specs.Cells as cell
use Rattle.hq_base.specs.Cells.{CellTree}
use Rattle.hq_sql_conjuncts.specs.Weight.{total, expr_weight, join_weight}
use Rattle.hq_sql_tree.specs.Tree.{ExprTree, OrderTree, OutTree, SelectTree}
use Rattle.hq_sql_tree.specs.View.{expr_view}
use Rattle.hq_sql_tree.specs.Meaning.{Scope as Names, World, value, with_alias, outputs}
use Rattle.hq_sql_output.specs.Selected.{scopes_in}
use Rattle.hq_sql_output.specs.Texts.{texts_of, folded_text}
use Rattle.hq_sql_output.specs.declared.listed.Listed.{Listed}

-- the expression of the first output of a name
abbrev pub output_in : List OutTree → (name : List ℕ) → Option ExprTree
output_in [] name = None
output_in (o ∷ os) name = cond (bytes_eq o.name name) (Some o.value) (output_in os name)

-- its value, NULL where there is none
abbrev pub value_in : Option ExprTree → Names → CellTree
value_in None names = cell.null
value_in (Some e) names = value e [] names

-- two expressions have one value in each scope
abbrev pub SameValue : ExprTree → ExprTree → Type 0
SameValue x y = (names : Names) → value x [] names ≡ value y [] names

-- an expression over the outputs of a select under an alias has the value of another one in the scope of the outputs
abbrev pub IsOutput : (alias : List ℕ) → List OutTree → ExprTree → ExprTree → Type 0
IsOutput alias outs x y = (outer names : Names) → value x [] (with_alias outer alias (outputs outs [] names)) ≡ value y [] names

-- a sort key over the outputs is a sort key of the select
pub record IsKey (alias : List ℕ) (outs : List OutTree) (outer_key inner_key : OrderTree) : Type 0 where
  pub value : IsOutput alias outs outer_key.value inner_key.value
  pub desc : outer_key.desc ≡ inner_key.desc
  pub nulls_first : outer_key.nulls_first ≡ inner_key.nulls_first

-- sort keys over the outputs are the first keys of the select
abbrev pub AreKeys : (alias : List ℕ) → List OutTree → List OrderTree → List OrderTree → Type 0
AreKeys alias outs [] ks = Unit {0}
AreKeys alias outs (o ∷ os) [] = ⊥
AreKeys alias outs (o ∷ os) (k ∷ ks) = IsKey alias outs o k × AreKeys alias outs os ks

-- an expression over the rows of a select is the list of an element at each row
pub record IsListed (e : ExprTree) (select : SelectTree) (alias : List ℕ) (listed : Listed) : Type 0 where
  pub text : (world : World) (names : Names) → folded_text e select alias world names ≡ 91 ∷ (texts_of (expr_view listed.element.now) (scopes_in listed.rows world names) ++ 93 ∷ [])

-- how much there is to write
abbrev pub listed_weight : Listed → ℕ
listed_weight listed = expr_weight listed.element.now + total (map join_weight listed.rows.joins.now)
