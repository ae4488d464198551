use Rattle.hq_gql_nodes.specs.Nodes.{node_view}
use Rattle.hq_rules_reach.specs.Spreads.{spreads}
use Rattle.hq_rules_reach.proofs.AnySoFar.{any_or_take-more}
use Rattle.hq_rules_reach.proofs.no_unused_fragments.note_spreads.Goals as goal

pub loop-node-preserved : goal.loop-node-preserved
loop-node-preserved c q =
    any_or_take-more (spreads q) node_view c.args.nodes.now c.loop-node.node-index c.node-item.result c.node-item.result _ _ _
    c.loop-node-test.true c.node-item.is (c.loop-node.invariant q) (c.in_ok-note_spread.ensures q)
