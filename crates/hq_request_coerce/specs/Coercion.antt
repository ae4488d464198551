-- What a JSON value is coerced to at a type of a schema (GraphQL October 2021, 3.5, 3.9, 3.10, 3.11, 3.12 and 6.1.2); None where
-- it is no value of the type.
use Rattle.std.specs.Prelude.{ℕ, List, [], ◌∷◌, ◌++◌, Bool, true, false, not, ◌&&◌, if◌then◌else◌, Option, Some, None, option_map, option_and_then, bytes_eq}
use Rattle.std.specs.List.{filter_map, list_any}
use Rattle.hq_base.specs.Cells.{cell_of, json_of}
use Rattle.hq_base.specs.Json.{JsonTree, null, bool, int, str, arr, obj, ElementTrees, no_element, element, MemberTrees, no_member, member, elements_of, members_of, names_of}
use Rattle.hq_base.specs.declared.value.Ty.{Ty}
use Rattle.hq_model.specs.Constants.{constant_in}
use Rattle.hq_schema.specs.Look.{type_at, input_field_of, enum_value_of}
use Rattle.hq_schema.specs.Schema.{TypeRefTree, named, list_of, non_null, base, ArgTree, TypeTree, SchemaTree}
use Rattle.hq_schema.specs.declared.origin.TypeOrigin.{TypeOrigin}
use Rattle.hq_schema.specs.declared.origin.TypeOrigin.TheVariants as origin
use Rattle.hq_gql_nodes.specs.Known.{element_type, input_at}

-- a type without null
abbrev pub is_non_null : TypeRefTree → Bool
is_non_null (named t) = false
is_non_null (list_of r) = false
is_non_null (non_null r) = true

abbrev pub is_null : JsonTree → Bool
is_null null = true
is_null j = false

-- null is a value of each type that is not without it
abbrev pub null_value : TypeRefTree → Option JsonTree
null_value r = if is_non_null r then None else Some null

-- a value of a scalar: a constant of the column's type that the scalar stands for, as JSON
abbrev pub scalar_value : Ty → JsonTree → Option JsonTree
scalar_value ty j = option_map (λ v. json_of (cell_of v)) (constant_in ty j)

-- a value of an enum: the text of one of its names
abbrev pub enum_value : SchemaTree → (type : ℕ) → JsonTree → Option JsonTree
enum_value s t (str name) = option_map (λ place. str name) (enum_value_of s t name)
enum_value s t j = None

-- a value that is no null, no list and no object, at a type of this origin
abbrev pub leaf_by : SchemaTree → (type : ℕ) → TypeOrigin → JsonTree → Option JsonTree
leaf_by s t (origin.Scalar ty) j = scalar_value ty j
leaf_by s t o j = enum_value s t j

abbrev pub leaf_value : SchemaTree → (type : ℕ) → JsonTree → Option JsonTree
leaf_value s t j = option_and_then (λ d. leaf_by s t d.origin j) (type_at s t)

-- a value that is no list stands at a list type for a list of one
abbrev pub in_lists : TypeRefTree → JsonTree → JsonTree
in_lists (named t) j = j
in_lists (list_of r) j = arr (element (in_lists r j) no_element)
in_lists (non_null r) j = in_lists r j

-- an input field that an object of these names lacks: it is without null, and has no default
abbrev pub is_given : (given : List (List ℕ)) → (name : List ℕ) → Bool
is_given given name = list_any (λ n. bytes_eq n name) given

abbrev pub is_lacking : (given : List (List ℕ)) → ArgTree → Bool
is_lacking given a = is_non_null a.ty && not a.default_false && not (is_given given a.name)

-- the default of an input field that is not given
abbrev pub default_member : (given : List (List ℕ)) → ArgTree → Option (List ℕ × JsonTree)
default_member given a = if a.default_false && not (is_given given a.name) then Some (a.name, bool false) else None

-- an object of these members, where their names are given, over these input fields: defaults stand behind what is given
abbrev pub object_of : (given : List (List ℕ)) → List ArgTree → List (List ℕ × JsonTree) → Option JsonTree
object_of given inputs members =
    if list_any (is_lacking given) inputs then None else Some (obj (members_of (members ++ filter_map (default_member given) inputs)))

-- the input fields of a type
abbrev pub inputs_in : Option TypeTree → List ArgTree
inputs_in None = []
inputs_in (Some d) = d.inputs

abbrev pub inputs_at : SchemaTree → ℕ → List ArgTree
inputs_at s t = inputs_in (type_at s t)

-- a value at a type: the members of an object keep their order
abbrev mutual
  pub coerced : SchemaTree → JsonTree → TypeRefTree → Option JsonTree
  coerced s null r = null_value r
  coerced s (bool b) r = option_map (in_lists r) (leaf_value s (base r) (bool b))
  coerced s (int n) r = option_map (in_lists r) (leaf_value s (base r) (int n))
  coerced s (str x) r = option_map (in_lists r) (leaf_value s (base r) (str x))
  coerced s (arr js) r = option_map (λ xs. arr (elements_of xs)) (option_and_then (λ item. coerced_elements s js item) (element_type r))
  coerced s (obj ms) r =
      option_map (in_lists r)
      (option_and_then (λ t. option_and_then (object_of (names_of ms) (inputs_at s t)) (coerced_members s ms t)) (input_at s (base r)))

  -- the elements of a list, each at the type of its items
  pub coerced_elements : SchemaTree → ElementTrees → TypeRefTree → Option (List JsonTree)
  coerced_elements s no_element r = Some []
  coerced_elements s (element j js) r = option_and_then (λ x. option_map (λ xs. x ∷ xs) (coerced_elements s js r)) (coerced s j r)

  -- the members of an object, each at the type of the input field of its name
  pub coerced_members : SchemaTree → MemberTrees → (type : ℕ) → Option (List (List ℕ × JsonTree))
  coerced_members s no_member t = Some []
  coerced_members s (member name j ms) t =
      option_and_then (λ x. option_map (λ xs. (name, x) ∷ xs) (coerced_members s ms t))
      (option_and_then (λ a. coerced s j a.ty) (input_field_of s t name))
