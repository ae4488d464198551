use Rattle.std.proofs.Common.{arith, rules}
use Rattle.hq_gql_nodes.specs.Reach.{graph_view}
use Rattle.hq_rules_reach.specs.Spreads.{cycle_at}
use Rattle.hq_rules_reach.proofs.LeastBelow.{least_with}
use Rattle.hq_rules_reach.proofs.no_fragment_cycles.least_cycle.Goals as goal

pub loop-at-preserved : goal.loop-at-preserved
loop-at-preserved c =
    least_with (cycle_at (graph_view c.args.graph.now)) c.args.document.now.definitions.items c.loop-at.at c.definition-item.result _ _
    (omega arith) (search rules) c.loop-at.invariant c.in_ok-least.ensures
