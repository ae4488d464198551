use Rattle.std.proofs.Common.{◌≡◌, ◌++◌, map, drop}
use Rattle.hq_schema.specs.declared.part.Part.TheVariants.{Aggregated}
use Rattle.hq_schema_of_role.proofs.parts.push_aggregated.Given as goal

abbrev pub invariant-loop-aggregate : goal.invariant-loop-aggregate
invariant-loop-aggregate l =
    l.parts.items ++ map Aggregated (drop l.aggregate-index l.aggregates) ≡ l.initial.parts.items ++ map Aggregated l.aggregates
