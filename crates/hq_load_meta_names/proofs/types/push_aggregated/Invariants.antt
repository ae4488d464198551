use Rattle.std.proofs.Common.{◌≡◌, ◌++◌, map, take}
use Rattle.hq_load_meta_names.specs.Types.{aggregated_name}
use Rattle.hq_load_meta_names.proofs.types.push_aggregated.Given as goal

abbrev pub invariant-loop-aggregate : goal.invariant-loop-aggregate
invariant-loop-aggregate l = l.all ≡ l.fn.names ++ map (aggregated_name l.name) (take l.aggregate-index l.aggregates)
