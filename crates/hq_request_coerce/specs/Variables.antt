-- Variables with their coerced values (GraphQL October 2021, 6.1.2).
use Rattle.std.specs.Prelude.{ℕ, List, find, Option, option_map, bytes_eq}
use Rattle.hq_base.specs.Json.{JsonTree, json_view}
use Rattle.hq_request_coerce.specs.declared.variables.VarValue.{VarValue}

-- a variable that has a value
pub record VarTree : Type 0 where
  pub name : List ℕ
  pub value : JsonTree

-- what a variable is seen as
abbrev pub var_view : VarValue → VarTree
var_view v = record { name = v.name; value = json_view v.value }

-- the value of the variable of a name, none where it has none
abbrev pub var_value : List VarTree → (name : List ℕ) → Option JsonTree
var_value vars name = option_map (λ v. v.value) (find (λ v. bytes_eq v.name name) vars)
