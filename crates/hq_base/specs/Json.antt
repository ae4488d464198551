-- JSON values without where they lie in memory.
use Rattle.std.specs.Prelude.{ℕ, ℤ, Bool, true, ◌&&◌, List, [], ◌∷◌, bytes_eq}
use Rattle.hq_base.specs.Lists.{all_differ}
use Rattle.hq_base.specs.declared.json.Json.{Json, fold-Json}
use Rattle.hq_base.specs.declared.json.Member.{Member, fold-Member}
use Rattle.hq_base.specs.declared.json.Json.TheOpen.{Json-F, Member-F}

-- a JSON value whose numbers are whole; elements and members stand in order
mutual
  pub data JsonTree : Type 0 where
    null : JsonTree
    bool : Bool → JsonTree
    int : ℤ → JsonTree
    str : List ℕ → JsonTree
    arr : ElementTrees → JsonTree
    obj : MemberTrees → JsonTree

  pub data ElementTrees : Type 0 where
    no_element : ElementTrees
    element : JsonTree → ElementTrees → ElementTrees

  pub data MemberTrees : Type 0 where
    no_member : MemberTrees
    member : (name : List ℕ) → JsonTree → MemberTrees → MemberTrees

-- the elements of a list
abbrev pub elements_of : List JsonTree → ElementTrees
elements_of [] = no_element
elements_of (j ∷ js) = element j (elements_of js)

-- the members of a list of names with their values
abbrev pub members_of : List (List ℕ × JsonTree) → MemberTrees
members_of [] = no_member
members_of (m ∷ ms) = member m.0 m.1 (members_of ms)

-- one level of a value, whose parts are seen already
abbrev pub json_step : Json-F JsonTree (List ℕ × JsonTree) → JsonTree
json_step Json-F.Null = null
json_step (Json-F.Bool b) = bool b
json_step (Json-F.Int n) = int n
json_step (Json-F.Str s) = str s
json_step (Json-F.Arr js) = arr (elements_of js.items)
json_step (Json-F.Obj ms) = obj (members_of ms.items)

abbrev pub member_step : Member-F JsonTree (List ℕ × JsonTree) → List ℕ × JsonTree
member_step m = (m.name, m.value)

-- what a value is seen as
abbrev pub json_view : Json → JsonTree
json_view = fold-Json JsonTree (List ℕ × JsonTree) json_step member_step

abbrev pub member_view : Member → List ℕ × JsonTree
member_view = fold-Member JsonTree (List ℕ × JsonTree) json_step member_step

-- the members' names, in order
abbrev pub names_of : MemberTrees → List (List ℕ)
names_of no_member = []
names_of (member name j ms) = name ∷ names_of ms

-- the names of each object's members differ
abbrev mutual
  pub has_distinct_names : JsonTree → Bool
  has_distinct_names null = true
  has_distinct_names (bool b) = true
  has_distinct_names (int n) = true
  has_distinct_names (str s) = true
  has_distinct_names (arr js) = elements_have_distinct_names js
  has_distinct_names (obj ms) = all_differ bytes_eq (names_of ms) && values_have_distinct_names ms

  pub elements_have_distinct_names : ElementTrees → Bool
  elements_have_distinct_names no_element = true
  elements_have_distinct_names (element j js) = has_distinct_names j && elements_have_distinct_names js

  pub values_have_distinct_names : MemberTrees → Bool
  values_have_distinct_names no_member = true
  values_have_distinct_names (member name j ms) = has_distinct_names j && values_have_distinct_names ms
