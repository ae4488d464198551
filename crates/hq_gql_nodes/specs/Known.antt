-- What is known where (GraphQL October 2021, section 5): the types of parents and of the places of values. What is not known is
-- None, and so is all that would be known by it.
use Rattle.std.specs.Prelude.{ℕ, List, Bool, false, true, not, Option, Some, None, cond, bytes_eq, codes, ◌||◌, ◌==◌, option_map, option_and_then}
use Rattle.std.specs.Option.{option_or, option_map_or}
use Rattle.hq_schema.specs.declared.schema.Kind.{Kind}
use Rattle.hq_schema.specs.declared.schema.Kind.TheVariants as kind
use Rattle.hq_schema.specs.Schema.{TypeRefTree, named, list_of, non_null, base, ArgTree, FieldTree, SchemaTree, type_ref_view}
use Rattle.hq_schema.specs.Look.{type_named, type_at, arg_in, field_in, field_of, input_field_of}
use Rattle.hq_gql_tree.specs.declared.document.OpKind.{OpKind}
use Rattle.hq_gql_tree.specs.declared.document.OpKind.TheVariants as op
use Rattle.hq_gql_tree.specs.Values.{ValueTree, null}
use Rattle.hq_gql_tree.specs.Types.{TypeTree}
use Rattle.hq_gql_tree.specs.Types.{named as type_name, list as list_type, non_null as non_null_type}
use Rattle.hq_gql_nodes.specs.declared.place.ValuePlace.{ValuePlace}

-- the place of a value: its type, and whether it has the default `false`
pub record PlaceTree : Type 0 where
  pub ty : TypeRefTree
  pub default_false : Bool

abbrev pub place_view : ValuePlace → PlaceTree
place_view p = record { ty = type_ref_view p.ty.now; default_false = p.default_false }

abbrev pub place_of_arg : ArgTree → PlaceTree
place_of_arg a = record { ty = a.ty; default_false = a.default_false }

-- a type without null
abbrev pub is_non_null : TypeRefTree → Bool
is_non_null (named t) = false
is_non_null (list_of r) = false
is_non_null (non_null r) = true

-- the literal null
abbrev pub is_null : ValueTree → Bool
is_null null = true
is_null v = false

-- the type of the elements of a list, none where it is no list
abbrev pub element_type : TypeRefTree → Option TypeRefTree
element_type (named t) = None
element_type (list_of r) = Some r
element_type (non_null r) = element_type r

abbrev pub element_place : Option PlaceTree → Option PlaceTree
element_place place = option_map (λ r. record { ty = r; default_false = false }) (option_and_then (λ p. element_type p.ty) place)

abbrev pub is_object : Kind → Bool
is_object kind.Scalar = false
is_object kind.Object = true
is_object kind.Enum = false
is_object kind.Input = false

abbrev pub is_input : Kind → Bool
is_input kind.Scalar = false
is_input kind.Object = false
is_input kind.Enum = false
is_input kind.Input = true

-- this type, where it is an object
abbrev pub object_at : SchemaTree → ℕ → Option ℕ
object_at s t = option_and_then (λ d. cond (is_object d.kind) (Some t) None) (type_at s t)

-- this type, where it is an input object
abbrev pub input_at : SchemaTree → ℕ → Option ℕ
input_at s t = option_and_then (λ d. cond (is_input d.kind) (Some t) None) (type_at s t)

-- the input object whose members stand at a place; one object stands for a list of one
abbrev pub input_of : SchemaTree → Option PlaceTree → Option ℕ
input_of s place = option_and_then (λ p. input_at s (base p.ty)) place

-- the place of a member of an input object
abbrev pub member_place : SchemaTree → Option ℕ → List ℕ → Option PlaceTree
member_place s input name = option_map place_of_arg (option_and_then (λ t. input_field_of s t name) input)

-- the place of an argument among those that are known
abbrev pub arg_place : Option (List ArgTree) → List ℕ → Option PlaceTree
arg_place args name = option_map place_of_arg (option_and_then (λ defs. arg_in defs name) args)

-- a field that stands in no type's list: `__typename` in each object type, `__schema` and `__type` in the root type of a query
abbrev pub meta_field : SchemaTree → ℕ → List ℕ → Option FieldTree
meta_field s t name = cond (bytes_eq s.type_name.name name) (Some s.type_name) (cond (t == s.query) (field_in s.introspection name) None)

-- the field of this name of a parent type
abbrev pub known_field : SchemaTree → Option ℕ → List ℕ → Option FieldTree
known_field s parent name = option_and_then (λ t. option_or (field_of s t name) (meta_field s t name)) parent

-- its arguments
abbrev pub args_of_field : SchemaTree → Option ℕ → List ℕ → Option (List ArgTree)
args_of_field s parent name = option_map (λ f. f.args) (known_field s parent name)

-- the parent type of what stands below it; a scalar, an enum and an input object are none
abbrev pub below_field : SchemaTree → Option ℕ → List ℕ → Option ℕ
below_field s parent name = option_and_then (λ f. object_at s (base f.ty)) (known_field s parent name)

-- the directives that are known (3.13.1, 3.13.2)
abbrev pub is_condition : List ℕ → Bool
is_condition name = bytes_eq name (codes "skip") || bytes_eq name (codes "include")

-- the arguments of a directive
abbrev pub args_of_directive : SchemaTree → List ℕ → Option (List ArgTree)
args_of_directive s name = cond (is_condition name) (Some s.conditions) None

-- the object type of this name
abbrev pub object_named : SchemaTree → List ℕ → Option ℕ
object_named s name = option_and_then (λ t. object_at s t) (type_named s name)

-- the parent type of the selections of an operation
abbrev pub root_of : SchemaTree → OpKind → Option ℕ
root_of s op.Query = object_at s s.query
root_of s op.Mutation = None
root_of s op.Subscription = None

-- the type that a document writes by names
abbrev pub resolved : SchemaTree → TypeTree → Option TypeRefTree
resolved s (type_name at name) = option_map named (type_named s name)
resolved s (list_type at of) = option_map list_of (resolved s of)
resolved s (non_null_type at of) = option_map non_null (resolved s of)

-- whether values may be given for a type
abbrev pub is_input_type : SchemaTree → TypeRefTree → Bool
is_input_type s r = option_map_or (λ d. not (is_object d.kind)) (type_at s (base r)) false

-- the place of a variable's default
abbrev pub default_place : SchemaTree → Option TypeRefTree → Option PlaceTree
default_place s ty = option_and_then (λ r. cond (is_input_type s r) (Some (record { ty = r; default_false = false })) None) ty
