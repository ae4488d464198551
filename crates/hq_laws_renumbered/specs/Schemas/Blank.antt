-- A schema without what its types, fields and arguments stand for in the database: each origin is one and the same, and no enum
-- value stands for a column. A scalar keeps its column type, by which literals and variables are read.
use Rattle.std.specs.Prelude.{[], map}
use Rattle.hq_schema.specs.Schema.{ArgTree, FieldTree, TypeTree, SchemaTree}
use Rattle.hq_schema.specs.declared.origin.TypeOrigin.{TypeOrigin}
use Rattle.hq_schema.specs.declared.origin.TypeOrigin.TheVariants as origin
use Rattle.hq_schema.specs.declared.origin.FieldOrigin.TheVariants as field
use Rattle.hq_schema.specs.declared.origin.ArgOrigin.TheVariants as arg

abbrev pub blank_origin : TypeOrigin → TypeOrigin
blank_origin (origin.Scalar ty) = origin.Scalar ty
blank_origin _ = origin.Introspection

abbrev pub blank_arg : ArgTree → ArgTree
blank_arg a = record a { origin = arg.Condition }

abbrev pub blank_field : FieldTree → FieldTree
blank_field f = record f { args = map blank_arg f.args; origin = field.Introspection }

abbrev pub blank_type : TypeTree → TypeTree
blank_type t = record t { fields = map blank_field t.fields; inputs = map blank_arg t.inputs; columns = []; origin = blank_origin t.origin }

abbrev pub blank : SchemaTree → SchemaTree
blank s = record s {
  types = map blank_type s.types;
  type_name = blank_field s.type_name;
  introspection = map blank_field s.introspection;
  conditions = map blank_arg s.conditions;
}
