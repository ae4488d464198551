-- What the fields of __Field, __InputValue, __EnumValue and __Directive give (GraphQL October 2021, 4.2.3 to 4.2.6). Nothing is
-- described, and nothing is deprecated.
use Rattle.std.specs.Prelude.{ℕ, List, map, Bool, true, false, codes}
use Rattle.hq_schema.specs.Fixed.{fixed_name}
use Rattle.hq_schema.specs.Schema.{ArgTree, FieldTree, SchemaTree}
use Rattle.hq_schema.specs.declared.fixed.Fixed.TheVariants as fixed
use Rattle.hq_request_introspect.specs.Directives.{directive_text, directive_locations}
use Rattle.hq_request_introspect.specs.Nodes.{input_node, ResolvedTree, many, nothing, text, texts, truth}
use Rattle.hq_request_introspect.specs.Types.{referred}
use Rattle.hq_request_introspect.specs.declared.directive.Directive.{Directive}
use Rattle.hq_request_introspect.specs.declared.field_name.FieldName.{FieldName}
use Rattle.hq_request_introspect.specs.declared.field_name.FieldName.TheVariants as field

-- a field of __Field
abbrev pub field_value : SchemaTree → FieldTree → FieldName → ResolvedTree
field_value s f field.Typename = text (fixed_name fixed.Field)
field_value s f field.Name = text f.name
field_value s f field.Args = many (map input_node f.args)
field_value s f field.«Type» = referred s f.ty
field_value s f field.IsDeprecated = truth false
field_value s f _ = nothing

-- the text of a default: `false`, or there is none
abbrev pub default_value : (default_false : Bool) → ResolvedTree
default_value true = text (codes "false")
default_value false = nothing

-- a field of __InputValue
abbrev pub input_value : SchemaTree → ArgTree → FieldName → ResolvedTree
input_value s a field.Typename = text (fixed_name fixed.InputValue)
input_value s a field.Name = text a.name
input_value s a field.«Type» = referred s a.ty
input_value s a field.DefaultValue = default_value a.default_false
input_value s a _ = nothing

-- a field of __EnumValue
abbrev pub enum_value : (name : List ℕ) → FieldName → ResolvedTree
enum_value name field.Typename = text (fixed_name fixed.EnumValue)
enum_value name field.Name = text name
enum_value name field.IsDeprecated = truth false
enum_value name _ = nothing

-- a field of __Directive
abbrev pub directive_value : SchemaTree → Directive → FieldName → ResolvedTree
directive_value s d field.Typename = text (fixed_name fixed.Directive)
directive_value s d field.Name = text (directive_text d)
directive_value s d field.IsRepeatable = truth false
directive_value s d field.Locations = texts directive_locations
directive_value s d field.Args = many (map input_node s.conditions)
directive_value s d _ = nothing
