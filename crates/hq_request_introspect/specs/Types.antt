-- What the fields of __Schema and __Type give (GraphQL October 2021, 4.2.1 and 4.2.2). Nothing is described, and there is
-- neither a mutation nor a subscription, an interface nor a union: their fields are null.
use Rattle.std.specs.Prelude.{ℕ, List, [], map}
use Rattle.std.specs.Cmp.Lexicographic.{slice_cmp}
use Rattle.std.specs.Ordering.{nat_cmp, on}
use Rattle.hq_base.specs.Lists.{sort}
use Rattle.hq_schema.specs.Fixed.{fixed_name}
use Rattle.hq_schema.specs.Look.{type_at}
use Rattle.hq_schema.specs.Schema.{ArgTree, FieldTree, TypeTree, SchemaTree, TypeRefTree, named, list_of, non_null}
use Rattle.hq_schema.specs.declared.fixed.Fixed.TheVariants as fixed
use Rattle.hq_schema.specs.declared.schema.Kind.{Kind}
use Rattle.hq_schema.specs.declared.schema.Kind.TheVariants.{Object, Enum, Input}
use Rattle.hq_request_introspect.specs.Directives.{all_directives}
use Rattle.hq_request_introspect.specs.Nodes.{type_node, list_node, non_null_node, field_node, input_node, value_node, directive_node, ResolvedTree, one, many, nothing, text, type_or_null}
use Rattle.hq_request_introspect.specs.TypeKinds.{kind_text, kind_of}
use Rattle.hq_request_introspect.specs.declared.field_name.FieldName.{FieldName}
use Rattle.hq_request_introspect.specs.declared.field_name.FieldName.TheVariants as field
use Rattle.hq_request_introspect.specs.declared.type_kind.TypeKind.{TypeKind}

-- a type under its name, and types so in ascending byte order of the names
abbrev pub under : TypeTree → List ℕ × TypeTree
under t = (t.name, t)

abbrev pub sorted_types : List (List ℕ × TypeTree) → List TypeTree
sorted_types us = map (λ (u : List ℕ × TypeTree). u.1) (sort (on (λ (u : List ℕ × TypeTree). u.0) (slice_cmp nat_cmp)) us)

-- the types of a schema, in ascending byte order of their names
unfoldable pub types_by_name : SchemaTree → List TypeTree
types_by_name s = sort (on (λ (t : TypeTree). t.name) (slice_cmp nat_cmp)) s.types

-- the __Type for a reference
abbrev pub referred : SchemaTree → TypeRefTree → ResolvedTree
referred s (named place) = type_or_null (type_at s place)
referred s (list_of r) = one (list_node r)
referred s (non_null r) = one (non_null_node r)

-- a field of __Schema, whose types stand in this order
abbrev pub schema_value : SchemaTree → (types : List TypeTree) → FieldName → ResolvedTree
schema_value s types field.Typename = text (fixed_name fixed.Schema)
schema_value s types field.Types = many (map type_node types)
schema_value s types field.QueryType = type_or_null (type_at s s.query)
schema_value s types field.Directives = many (map directive_node all_directives)
schema_value s types _ = nothing

-- an object type has fields, and implements no interface; an enum has values, an input object has input fields
abbrev pub object_fields : Kind → List FieldTree → ResolvedTree
object_fields Object fields = many (map field_node fields)
object_fields _ fields = nothing

abbrev pub object_interfaces : Kind → ResolvedTree
object_interfaces Object = many []
object_interfaces _ = nothing

abbrev pub enum_values : Kind → List (List ℕ) → ResolvedTree
enum_values Enum values = many (map value_node values)
enum_values _ values = nothing

abbrev pub input_fields : Kind → List ArgTree → ResolvedTree
input_fields Input inputs = many (map input_node inputs)
input_fields _ inputs = nothing

-- a field of the __Type that is one of the schema's types
abbrev pub type_value : TypeTree → FieldName → ResolvedTree
type_value t field.Typename = text (fixed_name fixed.«Type»)
type_value t field.Kind = text (kind_text (kind_of t.kind))
type_value t field.Name = text t.name
type_value t field.Fields = object_fields t.kind t.fields
type_value t field.Interfaces = object_interfaces t.kind
type_value t field.EnumValues = enum_values t.kind t.values
type_value t field.InputFields = input_fields t.kind t.inputs
type_value t _ = nothing

-- a field of the __Type that is a list of another, or another without null: its kind is this one
abbrev pub wrapper_value : SchemaTree → TypeKind → TypeRefTree → FieldName → ResolvedTree
wrapper_value s kind inner field.Typename = text (fixed_name fixed.«Type»)
wrapper_value s kind inner field.Kind = text (kind_text kind)
wrapper_value s kind inner field.OfType = referred s inner
wrapper_value s kind inner _ = nothing
