use Rattle.std.proofs.Common.{◌≡◌, ◌||◌, ℕ, List, map, take}
use Rattle.std.specs.List.{list_any}
use Rattle.hq_gql_nodes.specs.Names.{has_name}
use Rattle.hq_gql_nodes.specs.Nodes.{node_view}
use Rattle.hq_rules_reach.specs.Spreads.{spreads}
use Rattle.hq_rules_reach.proofs.no_unused_fragments.note_spreads.Given as goal

-- the names that the nodes so far spread are noted
abbrev pub invariant-loop-node : goal.invariant-loop-node
invariant-loop-node l = (q : List ℕ) → has_name l.names q ≡ (list_any (spreads q) (map node_view (take l.node-index l.nodes)) || has_name l.initial.names q)
