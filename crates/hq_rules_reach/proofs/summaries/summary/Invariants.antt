use Rattle.std.proofs.Common.{map, take}
use Rattle.std.specs.List.{All}
use Rattle.hq_gql_nodes.specs.Fragments.{Places}
use Rattle.hq_rules_reach.specs.Uses.{use_view, IsNumbered}
use Rattle.hq_rules_reach.specs.Summaries.{IsSummary}
use Rattle.hq_rules_reach.proofs.summaries.summary.Given as goal

-- the uses that are kept stand for those so far
abbrev pub invariant-loop-found : goal.invariant-loop-found
invariant-loop-found l = record {
  summary : IsSummary (map use_view l.kept.items) (map use_view (take l.found-index l.uses));
  numbered : (number_of : Places) → All (IsNumbered number_of) l.uses → All (IsNumbered number_of) l.kept.items;
}
