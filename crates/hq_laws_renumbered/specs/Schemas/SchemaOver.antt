-- A role's schema in the numbers of another catalog: only what its types, fields and arguments stand for changes.
use Rattle.std.specs.Prelude.{ℕ, map}
use Rattle.hq_schema.specs.Schema.{ArgTree, FieldTree, TypeTree, SchemaTree}
use Rattle.hq_schema.specs.declared.origin.ArgOrigin.{ArgOrigin}
use Rattle.hq_schema.specs.declared.origin.ArgOrigin.TheVariants as of_arg
use Rattle.hq_schema.specs.declared.origin.FieldOrigin.{FieldOrigin}
use Rattle.hq_schema.specs.declared.origin.FieldOrigin.TheVariants as of_field
use Rattle.hq_schema.specs.declared.origin.TypeOrigin.{TypeOrigin}
use Rattle.hq_schema.specs.declared.origin.TypeOrigin.TheVariants as of_type
use Rattle.hq_laws_renumbered.specs.Resolving.Renumbering.{Renumbering}

-- what an argument stands for in a type of table t
abbrev pub arg_origin_over : Renumbering → ℕ → ArgOrigin → ArgOrigin
arg_origin_over n t (of_arg.Column c) = of_arg.Column (n.column t c)
arg_origin_over n t (of_arg.Relationship r) = of_arg.Relationship (n.relationship t r)
arg_origin_over n t o = o

abbrev pub arg_over : Renumbering → ℕ → ArgTree → ArgTree
arg_over n t a = record { name = a.name; ty = a.ty; default_false = a.default_false; origin = arg_origin_over n t a.origin }

-- what a field stands for in a type of table t
abbrev pub field_origin_over : Renumbering → ℕ → FieldOrigin → FieldOrigin
field_origin_over n t (of_field.Column c) = of_field.Column (n.column t c)
field_origin_over n t (of_field.Object r) = of_field.Object (n.relationship t r)
field_origin_over n t (of_field.«List» r) = of_field.«List» (n.relationship t r)
field_origin_over n t (of_field.ListAggregate r) = of_field.ListAggregate (n.relationship t r)
field_origin_over n t (of_field.Rows u) = of_field.Rows (n.table u)
field_origin_over n t (of_field.RowsAggregate u) = of_field.RowsAggregate (n.table u)
field_origin_over n t (of_field.RowByKey u) = of_field.RowByKey (n.table u)
field_origin_over n t o = o

-- the table whose columns a field's arguments name: of a look-up by key the table that it looks in
abbrev pub keyed_table : FieldOrigin → ℕ → ℕ
keyed_table (of_field.RowByKey u) t = u
keyed_table _ t = t

abbrev pub field_over : Renumbering → ℕ → FieldTree → FieldTree
field_over n t f = record { name = f.name; args = map (arg_over n (keyed_table f.origin t)) f.args; ty = f.ty; origin = field_origin_over n t f.origin }

-- the table of a type; of one that has none any will do
abbrev pub type_table : TypeOrigin → ℕ
type_table (of_type.Rows t) = t
type_table (of_type.Filter t) = t
type_table (of_type.Sort t) = t
type_table (of_type.Columns t) = t
type_table (of_type.Aggregate t) = t
type_table (of_type.AggregateFields t) = t
type_table (of_type.Aggregated a t) = t
type_table _ = 0

abbrev pub type_origin_over : Renumbering → TypeOrigin → TypeOrigin
type_origin_over n (of_type.Rows t) = of_type.Rows (n.table t)
type_origin_over n (of_type.Filter t) = of_type.Filter (n.table t)
type_origin_over n (of_type.Sort t) = of_type.Sort (n.table t)
type_origin_over n (of_type.Columns t) = of_type.Columns (n.table t)
type_origin_over n (of_type.Aggregate t) = of_type.Aggregate (n.table t)
type_origin_over n (of_type.AggregateFields t) = of_type.AggregateFields (n.table t)
type_origin_over n (of_type.Aggregated a t) = of_type.Aggregated a (n.table t)
type_origin_over n o = o

-- a type: its members stand for columns and relationships of its table
abbrev pub type_over : Renumbering → TypeTree → TypeTree
type_over n d = record {
  name = d.name;
  kind = d.kind;
  fields = map (field_over n (type_table d.origin)) d.fields;
  inputs = map (arg_over n (type_table d.origin)) d.inputs;
  values = d.values;
  columns = map (n.column (type_table d.origin)) d.columns;
  origin = type_origin_over n d.origin;
}

-- a schema: what stands in no type's list stands for no table
abbrev pub schema_over : Renumbering → SchemaTree → SchemaTree
schema_over n s = record { types = map (type_over n) s.types; query = s.query; type_name = s.type_name; introspection = s.introspection; conditions = s.conditions }
