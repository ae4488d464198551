-- The scalars of opaque columns: those of the names of PostgreSQL's types (Hasura, PostgreSQL types: a type that GraphQL lacks is a
-- scalar of its name; GraphQL October 2021, 3.5). They stand behind the types that each schema has.
use Rattle.std.specs.Prelude.{ℕ, ◌+◌, List, [], ◌∷◌, ◌++◌, flat_map, length, position, cond, Option, Some, None, option_and_then, bytes_eq}
use Rattle.std.specs.List.{filter_map, list_any}
use Rattle.hq_base.specs.Lists.{firsts}
use Rattle.hq_base.specs.declared.value.Ty.{Ty}
use Rattle.hq_base.specs.declared.value.Ty.TheVariants.{Opaque}
use Rattle.hq_schema.specs.Schema.{TypeRefTree, named, TypeTree}
use Rattle.hq_schema.specs.declared.fixed.Fixed.TheVariants.{Scalar}
use Rattle.hq_schema.specs.declared.origin.TypeOrigin.TheVariants as origin
use Rattle.hq_schema.specs.declared.schema.Kind.TheVariants as kind
use Rattle.hq_schema_of_role.specs.References.{fixed}
use Rattle.hq_schema_of_role.specs.declared.shown.ShownColumn.{ShownColumn}
use Rattle.hq_schema_of_role.specs.declared.shown.ShownTable.{ShownTable}

-- how many types each schema has
abbrev pub fixed_count : ℕ
fixed_count = 21

-- those of tables, each once, in the order in which they come first
abbrev pub table_scalars : ShownTable → List (List ℕ)
table_scalars t = filter_map (λ c. c.scalar) t.columns

-- a name behind others, where it is not among them
abbrev pub with_different : (names : List (List ℕ)) → (name : List ℕ) → List (List ℕ)
with_different names name = cond (list_any (λ n. bytes_eq n name) names) names (names ++ name ∷ [])

abbrev pub scalars_of : List ShownTable → List (List ℕ)
scalars_of ts = firsts bytes_eq (flat_map table_scalars ts)

-- the place behind them
abbrev pub behind_scalars : (scalars : List (List ℕ)) → ℕ
behind_scalars scalars = fixed_count + length scalars

-- one of them as a type
unfoldable pub scalar_type : (name : List ℕ) → TypeTree
scalar_type name = record {
  name = name;
  kind = kind.Scalar;
  fields = [];
  inputs = [];
  values = [];
  columns = [];
  origin = origin.Scalar Opaque;
}

-- the type at a place among them, or else that of the column's type
abbrev pub scalar_at : Ty → (place : Option ℕ) → TypeRefTree
scalar_at ty None = fixed (Scalar ty)
scalar_at ty (Some i) = named (fixed_count + i)

-- the type of a column's values: its own scalar among these, or else that of its type
abbrev pub column_scalar : (scalars : List (List ℕ)) → ShownColumn → TypeRefTree
column_scalar scalars c = scalar_at c.ty (option_and_then (λ name. position (λ s. bytes_eq s name) scalars) c.scalar)
