-- The JSON of a selection on an object of introspection (GraphQL October 2021, 4.2, and 6.4: executing fields).
use Rattle.std.specs.Prelude.{ℕ, List, map}
use Rattle.std.specs.Option.{option_map_or}
use Rattle.hq_base.specs.Json.{JsonTree, arr, obj, elements_of, MemberTrees, no_member, member}
use Rattle.hq_request_tree.specs.Introspection.{IntrospectionTree, look, IntrospectionTrees, no_look, looks}
use Rattle.hq_schema.specs.Schema.{SchemaTree}
use Rattle.hq_request_introspect.specs.FieldNames.{field_named}
use Rattle.hq_request_introspect.specs.Members.{field_value, input_value, enum_value, directive_value}
use Rattle.hq_request_introspect.specs.Nodes.{NodeTree, schema_node, type_node, list_node, non_null_node, field_node, input_node, value_node, directive_node, ResolvedTree, leaf, one, many, nothing}
use Rattle.hq_request_introspect.specs.Types.{schema_value, type_value, wrapper_value}
use Rattle.hq_request_introspect.specs.declared.field_name.FieldName.{FieldName}
use Rattle.hq_request_introspect.specs.declared.type_kind.TypeKind.TheVariants as kind

-- what a field of an object gives
abbrev pub node_value : SchemaTree → NodeTree → FieldName → ResolvedTree
node_value s (schema_node types) f = schema_value s types f
node_value s (type_node t) f = type_value t f
node_value s (list_node r) f = wrapper_value s kind.«List» r f
node_value s (non_null_node r) f = wrapper_value s kind.NonNull r f
node_value s (field_node d) f = field_value s d f
node_value s (input_node a) f = input_value s a f
node_value s (value_node name) f = enum_value name f
node_value s (directive_node d) f = directive_value s d f

-- the same by the field's name, null where no field is named so
unfoldable pub resolved : SchemaTree → NodeTree → (name : List ℕ) → ResolvedTree
resolved s n name = option_map_or (node_value s n) (field_named name) nothing

-- what is resolved as JSON, where each object gives this (6.4.3: value completion)
abbrev pub completed : (object : NodeTree → JsonTree) → ResolvedTree → JsonTree
completed object (leaf j) = j
completed object (one n) = object n
completed object (many ns) = arr (elements_of (map object ns))

-- the members of an object, one for each selected field, and the value of one
abbrev mutual
  pub members : IntrospectionTrees → SchemaTree → NodeTree → MemberTrees
  members no_look s n = no_member
  members (looks key f fs) s n = member key (value f s n) (members fs s n)

  pub value : IntrospectionTree → SchemaTree → NodeTree → JsonTree
  value (look name type_name deprecated fs) s n = completed (λ below. obj (members fs s below)) (resolved s n name)

-- an object with these fields, and what is resolved as JSON where these fields are selected below it
abbrev pub object_of : IntrospectionTrees → SchemaTree → NodeTree → JsonTree
object_of fs s n = obj (members fs s n)

abbrev pub json_of : IntrospectionTrees → SchemaTree → ResolvedTree → JsonTree
json_of fs s r = completed (object_of fs s) r
