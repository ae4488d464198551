-- The JSON of `__schema` and `__type` (GraphQL October 2021, 4.2: schema introspection).
use Rattle.std.specs.Prelude.{ℕ, List, Option, option_and_then}
use Rattle.std.specs.Option.{option_map_or}
use Rattle.hq_base.specs.Json.{JsonTree}
use Rattle.hq_request_tree.specs.Introspection.{IntrospectionTree, look}
use Rattle.hq_schema.specs.Look.{type_named, type_at}
use Rattle.hq_schema.specs.Schema.{SchemaTree, TypeTree}
use Rattle.hq_request_introspect.specs.FieldNames.{field_named}
use Rattle.hq_request_introspect.specs.Nodes.{NodeTree, schema_node, ResolvedTree, one, nothing, type_or_null}
use Rattle.hq_request_introspect.specs.Selections.{json_of}
use Rattle.hq_request_introspect.specs.Types.{types_by_name}
use Rattle.hq_request_introspect.specs.declared.field_name.FieldName.{FieldName}
use Rattle.hq_request_introspect.specs.declared.field_name.FieldName.TheVariants.{WholeSchema, TypeByName}

-- the schema, with its types by name
abbrev pub whole_schema : SchemaTree → NodeTree
whole_schema s = schema_node (types_by_name s)

-- the type of this name, where one is given
abbrev pub type_by_name : SchemaTree → Option (List ℕ) → Option TypeTree
type_by_name s name = option_and_then (type_at s) (option_and_then (type_named s) name)

-- what a root field of introspection gives: the schema, or the type of this name, null where there is none
abbrev pub root_value : SchemaTree → (type_name : Option (List ℕ)) → FieldName → ResolvedTree
root_value s type_name WholeSchema = one (whole_schema s)
root_value s type_name TypeByName = type_or_null (type_by_name s type_name)
root_value s type_name _ = nothing

-- its JSON; `includeDeprecated` changes nothing, since nothing is deprecated
unfoldable pub answered : SchemaTree → IntrospectionTree → JsonTree
answered s (look name type_name deprecated fs) =
    json_of fs s (option_map_or (root_value s type_name) (field_named name) nothing)
