-- The typed request of collected fields, or the first fault in the order of the walk: at each field its arguments, then what
-- stands below it, then the next field (GraphQL October 2021, section 6; Hasura, Queries).
use Rattle.std.specs.Prelude.{ℕ, List, false, Option, Some, None, Ok}
use Rattle.hq_base.specs.Due.{mapped, ◌>>=◌}
use Rattle.hq_request_arguments.specs.Context.{Context}
use Rattle.hq_request_build.specs.KnownField.{Due, refused, KnownField, known_due, leads_to, type_name_due, rows_of, key_of, type_name_of}
use Rattle.hq_request_build.specs.Looks.{looks_due}
use Rattle.hq_request_build.specs.Summaries.{summaries_due}
use Rattle.hq_request_tree.specs.Fields.{FieldTrees, no_field, field, FieldTree, origin_of, column, typename, no_queries, object, list, by_key, aggregate, introspect, PartTrees, no_part, part, PartTree, summary, nodes, part_typename}
use Rattle.hq_request_tree.specs.Introspection.{IntrospectionTrees, look}
use Rattle.hq_request_tree.specs.declared.aggregate.KeyedAggField.{KeyedAggField}
use Rattle.hq_request_collect.specs.Tree.{CollectedTrees, no_collected, collected, is_empty}
use Rattle.hq_request_collect.specs.TreeSeen.{FieldSeen}
use Rattle.hq_gql_tree.specs.Selections.{FieldHead}
use Rattle.hq_gql_tree.specs.declared.rule.RuleId.TheVariants as rule
use Rattle.hq_model.specs.Schema.{rel}
use Rattle.hq_schema.specs.declared.origin.FieldOrigin.{FieldOrigin}
use Rattle.hq_schema.specs.declared.origin.FieldOrigin.TheVariants as origin

-- What stands below a field: fields at rows of a table, parts of an aggregate over rows of a table, or introspection.
pub record Below : Type 0 where
  pub fields : (t : ℕ) → Due FieldTrees
  pub parts : (u : ℕ) → Due PartTrees
  pub looks : Due IntrospectionTrees

-- a list of rows of a table, and the aggregates over one, at a relationship or at none
abbrev pub list_by : (table : ℕ) → (relationship : Option ℕ) → FieldHead → KnownField → Below → Due FieldTree
list_by u r h k b = rows_of h k.1 >>= λ a. mapped (list (origin_of u r) a) (b.fields u)

abbrev pub aggregate_by : (table : ℕ) → (relationship : Option ℕ) → FieldHead → KnownField → Below → Due FieldTree
aggregate_by u r h k b = rows_of h k.1 >>= λ a. mapped (aggregate (origin_of u r) a) (b.parts u)

-- the row of a key of a table
abbrev pub row_by : (table : ℕ) → FieldHead → KnownField → Below → Due FieldTree
row_by u h k b = key_of h k.1 >>= λ vs. mapped (by_key u vs) (b.fields u)

-- introspection, of a type of some name, and of the type that the argument names
abbrev pub introspect_by : FieldHead → (type_name : Option (List ℕ)) → Below → Due FieldTree
introspect_by h name b = mapped (λ fs. introspect (look h.name name false fs)) b.looks

abbrev pub introspect_named : FieldHead → KnownField → Below → Due FieldTree
introspect_named h k b = type_name_of h k.1 >>= λ name. introspect_by h (Some name) b

-- a field of the root, or at a row of table t, by what it stands for
abbrev pub field_by : Context → (place t : ℕ) → FieldHead → KnownField → Below → FieldOrigin → Due FieldTree
field_by c place t h k b (origin.Column col) = Ok (column col)
field_by c place t h k b origin.TypeName = mapped typename (type_name_due c.schema place h)
field_by c place t h k b origin.NoQueries = Ok no_queries
field_by c place t h k b (origin.Object r) = mapped (object r) (b.fields (rel c.tables t r).remote)
field_by c place t h k b (origin.«List» r) = list_by (rel c.tables t r).remote (Some r) h k b
field_by c place t h k b (origin.ListAggregate r) = aggregate_by (rel c.tables t r).remote (Some r) h k b
field_by c place t h k b (origin.Rows u) = list_by u None h k b
field_by c place t h k b (origin.RowsAggregate u) = aggregate_by u None h k b
field_by c place t h k b (origin.RowByKey u) = row_by u h k b
field_by c place t h k b origin.Schema = introspect_by h None b
field_by c place t h k b origin.«Type» = introspect_named h k b
field_by c place t h k b o = refused rule.FieldSelections h

-- a part of an aggregate over rows of a table, by what it stands for
abbrev pub part_by : Context → (place : ℕ) → FieldHead → (summaries : Due (List KeyedAggField)) → (rows : Due FieldTrees) → FieldOrigin → Due PartTree
part_by c place h summaries rows origin.Aggregates = mapped summary summaries
part_by c place h summaries rows origin.Nodes = mapped nodes rows
part_by c place h summaries rows origin.TypeName = mapped part_typename (type_name_due c.schema place h)
part_by c place h summaries rows o = refused rule.FieldSelections h

abbrev mutual
  -- fields in the type of a place, at a row of table t or at the root
  pub fields_due : Context → (place t : ℕ) → CollectedTrees → Due FieldTrees
  fields_due c place t no_collected = Ok no_field
  fields_due c place t (collected key h below others) =
      (known_due c place t h (is_empty below) >>= λ k. field_by c place t h k (record {
        fields = λ u. fields_due c (leads_to k) u below;
        parts = λ u. parts_due c (leads_to k) u below;
        looks = looks_due c (leads_to k) t below;
      }) k.0.origin)
      >>= λ f. mapped (field key f) (fields_due c place t others)

  -- parts of an aggregate over rows of table u, in the type of a place
  pub parts_due : Context → (place u : ℕ) → CollectedTrees → Due PartTrees
  parts_due c place u no_collected = Ok no_part
  parts_due c place u (collected key h below others) =
      (known_due c place u h (is_empty below) >>= λ k.
      part_by c place h (summaries_due c (leads_to k) u below) (fields_due c (leads_to k) u below) k.0.origin)
      >>= λ p. mapped (part key p) (parts_due c place u others)

-- one field of these, and one part

abbrev pub below_of : Context → (place t : ℕ) → CollectedTrees → Below
below_of c place t below = record {
  fields = λ u. fields_due c place u below;
  parts = λ u. parts_due c place u below;
  looks = looks_due c place t below;
}

abbrev pub field_of : Context → (place t : ℕ) → FieldSeen → KnownField → Due FieldTree
field_of c place t f k = field_by c place t f.head k (below_of c (leads_to k) t f.below) k.0.origin

abbrev pub field_due : Context → (place t : ℕ) → FieldSeen → Due FieldTree
field_due c place t f = known_due c place t f.head (is_empty f.below) >>= field_of c place t f

abbrev pub part_of : Context → (place u : ℕ) → FieldSeen → KnownField → Due PartTree
part_of c place u f k = part_by c place f.head (summaries_due c (leads_to k) u f.below) (fields_due c (leads_to k) u f.below) k.0.origin

abbrev pub part_due : Context → (place u : ℕ) → FieldSeen → Due PartTree
part_due c place u f = known_due c place u f.head (is_empty f.below) >>= part_of c place u f
