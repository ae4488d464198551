-- A schema without where it lies in memory (GraphQL October 2021, section 3), with what each thing in it stands for.
use Rattle.std.specs.Prelude.{ℕ, List, map, Bool}
use Rattle.hq_schema.specs.declared.origin.ArgOrigin.{ArgOrigin}
use Rattle.hq_schema.specs.declared.origin.FieldOrigin.{FieldOrigin}
use Rattle.hq_schema.specs.declared.origin.TypeOrigin.{TypeOrigin}
use Rattle.hq_schema.specs.declared.schema.Kind.{Kind}
use Rattle.hq_schema.specs.declared.schema.ArgDef.{ArgDef}
use Rattle.hq_schema.specs.declared.schema.FieldDef.{FieldDef}
use Rattle.hq_schema.specs.declared.schema.TypeDef.{TypeDef}
use Rattle.hq_schema.specs.declared.schema.Schema.{Schema}
use Rattle.hq_schema.specs.declared.type_ref.TypeRef.{TypeRef, fold-TypeRef}
use Rattle.hq_schema.specs.declared.type_ref.TypeRef.TheOpen.{TypeRef-F}

-- a reference to a type: the type by its place, a list of a reference, or a reference without null
pub data TypeRefTree : Type 0 where
  named : (place : ℕ) → TypeRefTree
  list_of : TypeRefTree → TypeRefTree
  non_null : TypeRefTree → TypeRefTree

-- the type inside all lists and non-null forms
abbrev pub base : TypeRefTree → ℕ
base (named t) = t
base (list_of r) = base r
base (non_null r) = base r

-- an argument or an input field, with the default `false` or none
pub record ArgTree : Type 0 where
  pub name : List ℕ
  pub ty : TypeRefTree
  pub default_false : Bool
  pub origin : ArgOrigin

-- a field of an object type
pub record FieldTree : Type 0 where
  pub name : List ℕ
  pub args : List ArgTree
  pub ty : TypeRefTree
  pub origin : FieldOrigin

-- a type: its fields, its input fields and its enum values, and the columns for which those stand, if for any
pub record TypeTree : Type 0 where
  pub name : List ℕ
  pub kind : Kind
  pub fields : List FieldTree
  pub inputs : List ArgTree
  pub values : List (List ℕ)
  pub columns : List ℕ
  pub origin : TypeOrigin

-- the types, the place of the query's root type, the field of each object type, those of the root type, and the arguments of
-- the directives
pub record SchemaTree : Type 0 where
  pub types : List TypeTree
  pub query : ℕ
  pub type_name : FieldTree
  pub introspection : List FieldTree
  pub conditions : List ArgTree

-- one level of a reference, whose part is seen already
abbrev pub type_ref_step : TypeRef-F TypeRefTree → TypeRefTree
type_ref_step (TypeRef-F.Named t) = named t
type_ref_step (TypeRef-F.List r) = list_of r.value
type_ref_step (TypeRef-F.NonNull r) = non_null r.value

-- what a reference is seen as
abbrev pub type_ref_view : TypeRef → TypeRefTree
type_ref_view = fold-TypeRef TypeRefTree type_ref_step

-- what an argument or an input field is seen as
abbrev pub arg_view : ArgDef → ArgTree
arg_view a = record { name = a.name; ty = type_ref_view a.ty; default_false = a.default_false; origin = a.origin }

-- what a field is seen as
abbrev pub field_view : FieldDef → FieldTree
field_view f = record { name = f.name; args = map arg_view f.args; ty = type_ref_view f.ty; origin = f.origin }

-- what a type is seen as
abbrev pub type_view : TypeDef → TypeTree
type_view t = record {
  name = t.name;
  kind = t.kind;
  fields = map field_view t.fields;
  inputs = map arg_view t.inputs;
  values = t.values;
  columns = t.columns;
  origin = t.origin;
}

-- what a schema is seen as
abbrev pub schema_view : Schema → SchemaTree
schema_view s = record {
  types = map type_view s.types;
  query = s.query;
  type_name = field_view s.type_name;
  introspection = map field_view s.introspection;
  conditions = map arg_view s.conditions;
}
