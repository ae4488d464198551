-- Which selections count, by their directives `@skip` and `@include` (GraphQL October 2021, 3.13.1, 3.13.2, 6.3.2).
use Rattle.std.specs.Prelude.{ℕ, List, find, Bool, true, false, ◌&&◌, not, Option, Some, None, bytes_eq, codes}
use Rattle.hq_base.specs.Json.{JsonTree}
use Rattle.hq_base.specs.Json as json
use Rattle.hq_request_coerce.specs.Variables.{VarTree, var_value}
use Rattle.hq_gql_tree.specs.Values.{ValueTree, variable, ArgumentTree, DirectiveTree}
use Rattle.hq_gql_tree.specs.Selections.{SelectionTree, field, spread, inline}
use Rattle.hq_gql_tree.specs.Values as value

abbrev pub is_true_json : JsonTree → Bool
is_true_json (json.bool b) = b
is_true_json _ = false

-- a variable without a value is not true
abbrev pub is_true_value : Option JsonTree → Bool
is_true_value (Some j) = is_true_json j
is_true_value None = false

unfoldable pub variable_holds : List VarTree → (name : List ℕ) → Bool
variable_holds vs name = is_true_value (var_value vs name)

-- whether a value is true
abbrev pub value_holds : List VarTree → ValueTree → Bool
value_holds vs (value.bool b) = b
value_holds vs (variable name) = variable_holds vs name
value_holds vs _ = false

abbrev pub arg_holds : List VarTree → Option ArgumentTree → Bool
arg_holds vs (Some a) = value_holds vs a.value.value
arg_holds vs None = false

-- whether the argument `if` of a directive is true
unfoldable pub if_holds : List VarTree → List ArgumentTree → Bool
if_holds vs args = arg_holds vs (find (λ a. bytes_eq a.name (codes "if")) args)

-- `if` of the directive of a name, none without such a directive
abbrev pub condition_of : List VarTree → Option DirectiveTree → Option Bool
condition_of vs (Some d) = Some (if_holds vs d.args)
condition_of vs None = None

unfoldable pub condition : List VarTree → (name : List ℕ) → List DirectiveTree → Option Bool
condition vs name ds = condition_of vs (find (λ d. bytes_eq d.name name) ds)

abbrev pub or_else : Bool → Option Bool → Bool
or_else b None = b
or_else b (Some c) = c

-- neither skipped nor left out
unfoldable pub is_included : List VarTree → List DirectiveTree → Bool
is_included vs ds = not (or_else false (condition vs (codes "skip") ds)) && or_else true (condition vs (codes "include") ds)

abbrev pub directives_in : SelectionTree → List DirectiveTree
directives_in (field h below) = h.directives
directives_in (spread s) = s.directives
directives_in (inline h below) = h.directives
