-- What the view of a JSON value says of its elements and members.
use Rattle.std.proofs.Common.{◌≡◌, ℕ, List, [], ◌∷◌, map, Vec, Global, rules, refl, ap}
use Rattle.hq_base.specs.Json.{JsonTree, arr, obj, elements_of, members_of, json_view, member_view}
use Rattle.hq_base.specs.Look.{element_list, member_list}
use Rattle.hq_base.specs.declared.json.Json.{Json, the_lemmas}
use Rattle.hq_base.specs.declared.json.Json.TheVariants.{Arr, Obj}
use Rattle.hq_base.specs.declared.json.Member.{Member}

-- an array is seen as its elements
pub view-Arr : (js : Vec Json Global) → json_view (Arr js) ≡ arr (elements_of (map json_view js.items))
view-Arr js = search (rules, the_lemmas)

-- an object is seen as its members
pub view-Obj : (ms : Vec Member Global) → json_view (Obj ms) ≡ obj (members_of (map member_view ms.items))
view-Obj ms = search (rules, the_lemmas)

-- a member is seen as its name and its value
pub view-Member : (m : Member) → member_view m ≡ (m.name, json_view m.value)
view-Member m = search (rules, the_lemmas)

-- the elements that a list makes are those of the list
pub element_list-elements_of : (js : List JsonTree) → element_list (elements_of js) ≡ js
element_list-elements_of [] = refl
element_list-elements_of (j ∷ js) = ap (λ t. j ∷ t) (element_list-elements_of js)

-- the members that a list makes are those of the list
pub member_list-members_of : (ms : List (List ℕ × JsonTree)) → member_list (members_of ms) ≡ ms
member_list-members_of [] = refl
member_list-members_of (m ∷ ms) = ap (λ t. m ∷ t) (member_list-members_of ms)
