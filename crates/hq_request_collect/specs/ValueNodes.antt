-- How many nodes a value of a document has with variables put in: a variable counts what its value counts, or one where it has
-- none.
use Rattle.std.specs.Prelude.{ℕ, ◌+◌, List, Option, Some, None}
use Rattle.hq_base.specs.Json.{JsonTree}
use Rattle.hq_request_collect.specs.JsonNodes.{text_nodes, json_nodes}
use Rattle.hq_request_coerce.specs.Variables.{VarTree, var_value}
use Rattle.hq_gql_tree.specs.Values.{ValueTree, int, float, str, bool, null, enum, list, object, variable, ElementTrees, no_element, element, MemberTrees, no_member, member}

abbrev pub put_in_nodes : Option JsonTree → ℕ
put_in_nodes (Some j) = json_nodes j
put_in_nodes None = 1

abbrev mutual
  pub value_nodes : List VarTree → ValueTree → ℕ
  value_nodes vars (int text) = 1
  value_nodes vars (float text) = 1
  value_nodes vars (str text) = text_nodes text
  value_nodes vars (bool b) = 1
  value_nodes vars null = 1
  value_nodes vars (enum name) = text_nodes name
  value_nodes vars (list vs) = 1 + element_nodes vars vs
  value_nodes vars (object ms) = 1 + member_nodes vars ms
  value_nodes vars (variable name) = put_in_nodes (var_value vars name)

  pub element_nodes : List VarTree → ElementTrees → ℕ
  element_nodes vars no_element = 0
  element_nodes vars (element at v vs) = value_nodes vars v + element_nodes vars vs

  pub member_nodes : List VarTree → MemberTrees → ℕ
  member_nodes vars no_member = 0
  member_nodes vars (member at name value_at v ms) = value_nodes vars v + member_nodes vars ms
