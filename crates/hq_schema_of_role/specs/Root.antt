-- The root type of a query (Hasura, API reference: GraphQL API; custom root fields), and the fields that stand in no type's list
-- (GraphQL October 2021, 4.1 and 4.2).
use Rattle.std.specs.Prelude.{List, [], ◌∷◌, ◌++◌, map, flat_map, cond, codes, Option, Some, None}
use Rattle.hq_schema.specs.Fixed.{boolean, string}
use Rattle.hq_schema.specs.Schema.{non_null, ArgTree, FieldTree}
use Rattle.hq_schema.specs.declared.fixed.Fixed.TheVariants as fixed_type
use Rattle.hq_schema.specs.declared.origin.ArgOrigin.TheVariants as arg_origin
use Rattle.hq_schema.specs.declared.origin.FieldOrigin.TheVariants as origin
use Rattle.hq_schema.specs.declared.part.Part.TheVariants.{Rows}
use Rattle.hq_schema_of_role.specs.Fields.{list_field, aggregate_field}
use Rattle.hq_schema_of_role.specs.References.{fixed, part, arg, plain_field}
use Rattle.hq_schema_of_role.specs.declared.shown.ShownColumn.{ShownColumn}
use Rattle.hq_schema_of_role.specs.declared.shown.PlacedTable.{PlacedTable}

-- a column of the key as an argument
abbrev pub key_arg : ShownColumn → ArgTree
key_arg c = arg c.name (non_null (fixed (fixed_type.Scalar c.ty))) (arg_origin.Column c.col)

-- the look-up by the columns of the key
abbrev pub key_field : PlacedTable → List ShownColumn → FieldTree
key_field p key = record { name = p.shown.roots.select_by_pk; args = map key_arg key; ty = part p.first Rows; origin = origin.RowByKey p.shown.table }

-- where they are all permitted
abbrev pub key_fields : PlacedTable → Option (List ShownColumn) → List FieldTree
key_fields p None = []
key_fields p (Some key) = key_field p key ∷ []

-- the aggregates over a table's rows, where those are allowed
abbrev pub aggregate_root : PlacedTable → List FieldTree
aggregate_root p =
    cond p.shown.aggregates (aggregate_field p.shown.roots.select_aggregate p.first (origin.RowsAggregate p.shown.table) ∷ []) []

-- the root fields of a table
abbrev pub root_fields : PlacedTable → List FieldTree
root_fields p = list_field p.shown.roots.select p.first (origin.Rows p.shown.table) ∷ aggregate_root p ++ key_fields p p.shown.key

-- the one field where there is nothing to ask for
abbrev pub no_queries : FieldTree
no_queries = plain_field (codes "no_queries_available") (non_null (fixed string)) origin.NoQueries

-- the root fields of all tables
abbrev pub query_fields : List PlacedTable → List FieldTree
query_fields [] = no_queries ∷ []
query_fields (p ∷ ps) = flat_map root_fields (p ∷ ps)

-- __typename: String!
abbrev pub type_name_field : FieldTree
type_name_field = plain_field (codes "__typename") (non_null (fixed string)) origin.TypeName

-- __schema: __Schema! and __type(name: String!): __Type
abbrev pub schema_field : FieldTree
schema_field = plain_field (codes "__schema") (non_null (fixed fixed_type.Schema)) origin.Schema

abbrev pub type_field : FieldTree
type_field = record {
  name = codes "__type";
  args = arg (codes "name") (non_null (fixed string)) arg_origin.TypeName ∷ [];
  ty = fixed fixed_type.«Type»;
  origin = origin.«Type»;
}

-- if: Boolean!, the argument of `skip` and `include` (GraphQL October 2021, 3.13.1 and 3.13.2)
abbrev pub condition : ArgTree
condition = arg (codes "if") (non_null (fixed boolean)) arg_origin.Condition
