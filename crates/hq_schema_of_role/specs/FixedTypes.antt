-- The types that each schema has: scalars, the directions of a sort, the comparisons of each scalar, the types of introspection,
-- and the root type of a query (GraphQL October 2021, 3.5 and 4.2; Hasura, API reference: GraphQL API).
use Rattle.std.specs.Prelude.{ℕ, List, [], ◌∷◌, map, codes}
use Rattle.hq_schema.specs.Fixed.{all_fixed, fixed_name, fixed_kind, fixed_origin}
use Rattle.hq_schema.specs.Schema.{ArgTree, FieldTree, TypeTree}
use Rattle.hq_schema.specs.declared.fixed.Fixed.{Fixed}
use Rattle.hq_schema.specs.declared.fixed.Fixed.TheVariants.{OrderBy, Comparison, TypeKind, DirectiveLocation, QueryRoot}
use Rattle.hq_schema_of_role.specs.Introspection.{introspection_fields}
use Rattle.hq_schema_of_role.specs.Operators.{operator_inputs}
use Rattle.hq_schema_of_role.specs.Root.{query_fields}
use Rattle.hq_schema_of_role.specs.declared.shown.PlacedTable.{PlacedTable}

-- the values of enums, in ascending order of their bytes
unfoldable pub fixed_values : Fixed → List (List ℕ)
fixed_values OrderBy =
    codes "asc" ∷ codes "asc_nulls_first" ∷ codes "asc_nulls_last" ∷ codes "desc" ∷ codes "desc_nulls_first" ∷ codes "desc_nulls_last" ∷ []
fixed_values TypeKind =
    codes "ENUM" ∷ codes "INPUT_OBJECT" ∷ codes "INTERFACE" ∷ codes "LIST" ∷ codes "NON_NULL" ∷ codes "OBJECT" ∷ codes "SCALAR"
    ∷ codes "UNION" ∷ []
fixed_values DirectiveLocation =
    codes "ARGUMENT_DEFINITION" ∷ codes "ENUM" ∷ codes "ENUM_VALUE" ∷ codes "FIELD" ∷ codes "FIELD_DEFINITION"
    ∷ codes "FRAGMENT_DEFINITION" ∷ codes "FRAGMENT_SPREAD" ∷ codes "INLINE_FRAGMENT" ∷ codes "INPUT_FIELD_DEFINITION"
    ∷ codes "INPUT_OBJECT" ∷ codes "INTERFACE" ∷ codes "MUTATION" ∷ codes "OBJECT" ∷ codes "QUERY" ∷ codes "SCALAR"
    ∷ codes "SCHEMA" ∷ codes "SUBSCRIPTION" ∷ codes "UNION" ∷ codes "VARIABLE_DEFINITION" ∷ []
fixed_values _ = []

-- the comparisons of each scalar
abbrev pub fixed_inputs : Fixed → List ArgTree
fixed_inputs (Comparison t) = operator_inputs t
fixed_inputs _ = []

-- the root type alone depends on what the role may see
abbrev pub fixed_fields : List PlacedTable → Fixed → List FieldTree
fixed_fields ps QueryRoot = query_fields ps
fixed_fields ps f = introspection_fields f

unfoldable pub fixed_type : List PlacedTable → Fixed → TypeTree
fixed_type ps f = record {
  name = fixed_name f;
  kind = fixed_kind f;
  fields = fixed_fields ps f;
  inputs = fixed_inputs f;
  values = fixed_values f;
  columns = [];
  origin = fixed_origin f;
}

-- all of them
abbrev pub fixed_types : List PlacedTable → List TypeTree
fixed_types ps = map (fixed_type ps) all_fixed
