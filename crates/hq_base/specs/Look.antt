-- Look-ups in a JSON value: what it holds, by its kind, and the members of an object by their names.
use Rattle.std.specs.Prelude.{ℕ, ℤ, Bool, List, [], ◌∷◌, Option, Some, None, option_and_then, bytes_eq}
use Rattle.std.specs.Map.{lookup}
use Rattle.hq_base.specs.Json.{JsonTree, bool, int, str, arr, obj, ElementTrees, no_element, element, MemberTrees, no_member, member}

-- the elements of an array, as a list
abbrev pub element_list : ElementTrees → List JsonTree
element_list no_element = []
element_list (element j js) = j ∷ element_list js

-- the members of an object, as a list of names with their values
abbrev pub member_list : MemberTrees → List (List ℕ × JsonTree)
member_list no_member = []
member_list (member name j ms) = (name, j) ∷ member_list ms

-- what a value holds, where it is of that kind
abbrev pub bool_in : JsonTree → Option Bool
bool_in (bool b) = Some b
bool_in _ = None

abbrev pub int_in : JsonTree → Option ℤ
int_in (int n) = Some n
int_in _ = None

abbrev pub str_in : JsonTree → Option (List ℕ)
str_in (str s) = Some s
str_in _ = None

abbrev pub array_in : JsonTree → Option (List JsonTree)
array_in (arr js) = Some (element_list js)
array_in _ = None

abbrev pub object_in : JsonTree → Option (List (List ℕ × JsonTree))
object_in (obj ms) = Some (member_list ms)
object_in _ = None

-- the member of this name, where the value is an object that has it
abbrev pub member_in : JsonTree → (name : List ℕ) → Option JsonTree
member_in j name = option_and_then (lookup (λ n. bytes_eq n name)) (object_in j)
