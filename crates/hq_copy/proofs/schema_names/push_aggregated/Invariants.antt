use Rattle.std.proofs.Common.{◌≡◌, ◌++◌, map, drop, filter}
use Rattle.hq_base.specs.Aggregates.{aggregate_suffix}
use Rattle.hq_model.specs.Meta.{MetaTree, tracked_view}
use Rattle.hq_model.specs.Schema.{schema_of}
use Rattle.hq_model.specs.SchemaNames.{is_aggregated}
use Rattle.hq_copy.proofs.schema_names.push_aggregated.Given as goal

-- those so far, and then those of the aggregates that are left
abbrev pub invariant-loop-aggregate : goal.invariant-loop-aggregate
invariant-loop-aggregate l =
    (m : MetaTree) → l.names ++ map (λ a. l.tracked.name ++ aggregate_suffix a) (filter (is_aggregated (schema_of l.tables m) (tracked_view l.tracked)) (drop l.aggregate-index l.aggregates))
    ≡ l.fn.names ++ map (λ a. l.tracked.name ++ aggregate_suffix a) (filter (is_aggregated (schema_of l.tables m) (tracked_view l.tracked)) l.aggregates)
