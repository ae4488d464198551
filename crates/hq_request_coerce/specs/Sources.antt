-- The JSON that a value of a document writes with these variables (GraphQL October 2021, 2.9, 6.4.1): a variable's place has its
-- value, and an enum is its text. None is the value of a variable that has none, and an element or a member with such a value is
-- left out. A number that is not whole, or beyond 64 bits, is no value of any type (5.6.1): it is null here.
use Rattle.std.specs.Prelude.{ℕ, ℤ, List, [], ◌∷◌, Option, Some, None}
use Rattle.hq_base.specs.Json.{JsonTree, arr, obj, elements_of, members_of}
use Rattle.hq_base.specs.Json as json
use Rattle.hq_base.specs.declared.value.Ty.TheVariants.{Bigint}
use Rattle.hq_model.specs.Reading.{whole_number}
use Rattle.hq_gql_tree.specs.Values.{ValueTree, int, float, str, bool, null, enum, list, object, variable, ElementTrees, no_element, element, MemberTrees, no_member, member}
use Rattle.hq_request_coerce.specs.Variables.{VarTree, var_value}

-- a whole number, null where there is none
abbrev pub int_or_null : Option ℤ → JsonTree
int_or_null (Some n) = json.int n
int_or_null None = json.null

unfoldable pub number_of : (text : List ℕ) → JsonTree
number_of text = int_or_null (whole_number Bigint text)

-- an element, and a member of this name, before others
abbrev pub with_element : Option JsonTree → List JsonTree → List JsonTree
with_element (Some j) js = j ∷ js
with_element None js = js

abbrev pub with_member : (name : List ℕ) → Option JsonTree → List (List ℕ × JsonTree) → List (List ℕ × JsonTree)
with_member name (Some j) ms = (name, j) ∷ ms
with_member name None ms = ms

-- the JSON of a value
abbrev mutual
  pub source_of : List VarTree → ValueTree → Option JsonTree
  source_of vars (int text) = Some (number_of text)
  source_of vars (float text) = Some json.null
  source_of vars (str text) = Some (json.str text)
  source_of vars (bool b) = Some (json.bool b)
  source_of vars null = Some json.null
  source_of vars (enum name) = Some (json.str name)
  source_of vars (list vs) = Some (arr (elements_of (element_sources vars vs)))
  source_of vars (object ms) = Some (obj (members_of (member_sources vars ms)))
  source_of vars (variable name) = var_value vars name

  pub element_sources : List VarTree → ElementTrees → List JsonTree
  element_sources vars no_element = []
  element_sources vars (element at v vs) = with_element (source_of vars v) (element_sources vars vs)

  pub member_sources : List VarTree → MemberTrees → List (List ℕ × JsonTree)
  member_sources vars no_member = []
  member_sources vars (member at name value_at v ms) = with_member name (source_of vars v) (member_sources vars ms)
