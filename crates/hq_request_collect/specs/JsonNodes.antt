-- How many nodes a JSON value has: each value counts one and what stands in it, and a text one more for each 64 of its bytes.
use Rattle.std.specs.Prelude.{ℕ, ◌+◌, ◌/◌, List, length}
use Rattle.hq_base.specs.Json.{JsonTree, null, bool, int, str, arr, obj, ElementTrees, no_element, element, MemberTrees, no_member, member}

abbrev pub text_nodes : List ℕ → ℕ
text_nodes s = 1 + length s / 64

abbrev mutual
  pub json_nodes : JsonTree → ℕ
  json_nodes null = 1
  json_nodes (bool b) = 1
  json_nodes (int n) = 1
  json_nodes (str s) = text_nodes s
  json_nodes (arr js) = 1 + element_nodes js
  json_nodes (obj ms) = 1 + member_nodes ms

  pub element_nodes : ElementTrees → ℕ
  element_nodes no_element = 0
  element_nodes (element j js) = json_nodes j + element_nodes js

  pub member_nodes : MemberTrees → ℕ
  member_nodes no_member = 0
  member_nodes (member name j ms) = json_nodes j + member_nodes ms
