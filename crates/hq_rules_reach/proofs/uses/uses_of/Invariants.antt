use Rattle.std.proofs.Common.{◌≡◌, map, take}
use Rattle.std.specs.List.{All}
use Rattle.hq_gql_nodes.specs.Names.{get_name}
use Rattle.hq_gql_nodes.specs.Nodes.{node_view}
use Rattle.hq_rules_reach.specs.Uses.{use_view, uses_of, AreNumbers, Keeps, IsNumbered}
use Rattle.hq_rules_reach.proofs.uses.uses_of.Given as goal

-- the uses among the nodes so far, with their numbers
abbrev pub invariant-loop-node : goal.invariant-loop-node
invariant-loop-node l = record {
  numbers : AreNumbers (get_name l.numbers.names) l.numbers.count;
  kept : Keeps (get_name l.initial.numbers.names) (get_name l.numbers.names);
  numbered : All (IsNumbered (get_name l.numbers.names)) l.uses.items;
  found : map use_view l.uses.items ≡ uses_of (map node_view (take l.node-index l.nodes));
}
