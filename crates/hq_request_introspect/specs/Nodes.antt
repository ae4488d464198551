-- What a selection of introspection stands in: an object of one of the types of introspection (GraphQL October 2021, 4.2).
use Rattle.std.specs.Prelude.{ℕ, List, map, Bool, Option, Some, None}
use Rattle.hq_base.specs.Json.{JsonTree, null, bool, str, arr, elements_of}
use Rattle.hq_schema.specs.Schema.{ArgTree, FieldTree, TypeTree, TypeRefTree}
use Rattle.hq_request_introspect.specs.declared.directive.Directive.{Directive}

-- a __Schema, whose types stand in this order; a __Type, which is one of the schema's, a list of another, or another without
-- null; a __Field; an __InputValue; an __EnumValue; a __Directive
pub data NodeTree : Type 0 where
  schema_node : (types : List TypeTree) → NodeTree
  type_node : TypeTree → NodeTree
  list_node : (item : TypeRefTree) → NodeTree
  non_null_node : (nullable : TypeRefTree) → NodeTree
  field_node : FieldTree → NodeTree
  input_node : ArgTree → NodeTree
  value_node : (name : List ℕ) → NodeTree
  directive_node : Directive → NodeTree

-- what a field gives before anything is selected below it (GraphQL October 2021, 6.4.2: value resolution): a leaf, one object,
-- or a list of objects
pub data ResolvedTree : Type 0 where
  leaf : JsonTree → ResolvedTree
  one : NodeTree → ResolvedTree
  many : List NodeTree → ResolvedTree

-- null, a text, texts, a truth value
abbrev pub nothing : ResolvedTree
nothing = leaf null

abbrev pub text : List ℕ → ResolvedTree
text t = leaf (str t)

abbrev pub texts : List (List ℕ) → ResolvedTree
texts ts = leaf (arr (elements_of (map str ts)))

abbrev pub truth : Bool → ResolvedTree
truth b = leaf (bool b)

-- a type of the schema, null where there is none
abbrev pub type_or_null : Option TypeTree → ResolvedTree
type_or_null None = nothing
type_or_null (Some t) = one (type_node t)
