-- The types of a table (Hasura, API reference: GraphQL API).
use Rattle.std.specs.Prelude.{ℕ, ◌+◌, List, [], ◌∷◌, codes}
use Rattle.hq_base.specs.Aggregates.{aggregate_suffix}
use Rattle.hq_schema.specs.declared.origin.TypeOrigin.{TypeOrigin}
use Rattle.hq_schema.specs.declared.origin.TypeOrigin.TheVariants as origin
use Rattle.hq_schema.specs.declared.part.Part.{Part}
use Rattle.hq_schema.specs.declared.part.Part.TheVariants.{Rows, Filter, Sort, Columns, Aggregate, AggregateFields, Aggregated}
use Rattle.hq_schema.specs.declared.schema.Kind.{Kind}
use Rattle.hq_schema.specs.declared.schema.Kind.TheVariants as kind

-- those that each table has, in the order in which they stand in a schema
abbrev pub row_parts : List Part
row_parts = Rows ∷ Filter ∷ Sort ∷ Columns ∷ []

-- and behind them those of a table that may be aggregated, before what single aggregates give
abbrev pub aggregate_parts : List Part
aggregate_parts = Aggregate ∷ AggregateFields ∷ []

-- what follows the table's name in the name of each
abbrev pub part_suffix : Part → List ℕ
part_suffix Rows = codes ""
part_suffix Filter = codes "_bool_exp"
part_suffix Sort = codes "_order_by"
part_suffix Columns = codes "_select_column"
part_suffix Aggregate = codes "_aggregate"
part_suffix AggregateFields = codes "_aggregate_fields"
part_suffix (Aggregated a) = aggregate_suffix a

-- how many of a table's types stand before it; what single aggregates give stands from one place on, one behind the other
abbrev pub part_offset : Part → ℕ
part_offset Rows = 0
part_offset Filter = 1
part_offset Sort = 2
part_offset Columns = 3
part_offset Aggregate = 4
part_offset AggregateFields = 5
part_offset (Aggregated a) = 6

-- its place in a schema, where the table's types begin at a place
abbrev pub part_place : (first : ℕ) → Part → ℕ
part_place first p = first + part_offset p

-- what it is
abbrev pub part_kind : Part → Kind
part_kind Filter = kind.Input
part_kind Sort = kind.Input
part_kind Columns = kind.Enum
part_kind _ = kind.Object

-- what it stands for
abbrev pub part_origin : Part → (table : ℕ) → TypeOrigin
part_origin Rows t = origin.Rows t
part_origin Filter t = origin.Filter t
part_origin Sort t = origin.Sort t
part_origin Columns t = origin.Columns t
part_origin Aggregate t = origin.Aggregate t
part_origin AggregateFields t = origin.AggregateFields t
part_origin (Aggregated a) t = origin.Aggregated a t
