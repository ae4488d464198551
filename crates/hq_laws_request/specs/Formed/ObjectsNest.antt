-- How many objects of a JSON value stand in one another. Lists are not counted: a single value may stand for a list of one.
use Rattle.std.specs.Prelude.{ℕ, suc, max}
use Rattle.hq_base.specs.Json.{JsonTree, null, bool, int, str, arr, obj, ElementTrees, no_element, element, MemberTrees, no_member, member}

abbrev mutual
  pub objects_nest : JsonTree → ℕ
  objects_nest null = 0
  objects_nest (bool b) = 0
  objects_nest (int n) = 0
  objects_nest (str s) = 0
  objects_nest (arr js) = elements_nest js
  objects_nest (obj ms) = suc (members_nest ms)

  pub elements_nest : ElementTrees → ℕ
  elements_nest no_element = 0
  elements_nest (element j js) = max (objects_nest j) (elements_nest js)

  pub members_nest : MemberTrees → ℕ
  members_nest no_member = 0
  members_nest (member name j ms) = max (objects_nest j) (members_nest ms)
