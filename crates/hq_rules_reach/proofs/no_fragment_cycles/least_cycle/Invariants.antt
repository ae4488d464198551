use Rattle.std.proofs.Common.{◌≡◌}
use Rattle.hq_gql_tree.specs.View.{document_view}
use Rattle.hq_gql_nodes.specs.Reach.{graph_view}
use Rattle.hq_rules_reach.specs.Spreads.{least_below, place_at}
use Rattle.hq_rules_reach.specs.Spreads.{cycle_at}
use Rattle.hq_rules_reach.proofs.no_fragment_cycles.least_cycle.Given as goal

-- the least place of the definitions so far
abbrev pub invariant-loop-at : goal.invariant-loop-at
invariant-loop-at l = l.least ≡ least_below (place_at (cycle_at (graph_view l.graph)) (document_view l.document)) l.at
