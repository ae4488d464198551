use Rattle.std.proofs.Common.{◌≡◌, map, take}
use Rattle.hq_gql_nodes.specs.Names.{get_name}
use Rattle.hq_gql_nodes.specs.Nodes.{node_view}
use Rattle.hq_gql_nodes.specs.Fragments.{spread_targets}
use Rattle.hq_gql_nodes.proofs.fragments.spread_targets.Given as goal

-- the fragments that the nodes so far spread
abbrev pub invariant-loop-node : goal.invariant-loop-node
invariant-loop-node l = l.targets.items ≡ spread_targets (get_name l.places) (map node_view (take l.node-index l.nodes))
