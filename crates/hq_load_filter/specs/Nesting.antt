-- How deep JSON nests.
use Rattle.std.specs.Prelude.{ℕ, suc, max}
use Rattle.hq_base.specs.Json.{JsonTree, null, bool, int, str, arr, obj, ElementTrees, no_element, element, MemberTrees, no_member, member}

-- how many arrays and objects stand inside one another
abbrev mutual
  pub nesting : JsonTree → ℕ
  nesting null = 0
  nesting (bool b) = 0
  nesting (int n) = 0
  nesting (str s) = 0
  nesting (arr js) = suc (nesting_of_elements js)
  nesting (obj ms) = suc (nesting_of_members ms)

  pub nesting_of_elements : ElementTrees → ℕ
  nesting_of_elements no_element = 0
  nesting_of_elements (element j js) = max (nesting j) (nesting_of_elements js)

  pub nesting_of_members : MemberTrees → ℕ
  nesting_of_members no_member = 0
  nesting_of_members (member name j ms) = max (nesting j) (nesting_of_members ms)
