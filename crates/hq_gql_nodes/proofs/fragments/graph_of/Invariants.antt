use Rattle.std.proofs.Common.{◌≡◌, map, take}
use Rattle.hq_gql_nodes.specs.Names.{get_name}
use Rattle.hq_gql_nodes.specs.Nodes.{part_view}
use Rattle.hq_gql_nodes.specs.Fragments.{graph_of}
use Rattle.hq_gql_nodes.specs.Reach.{graph_view}
use Rattle.hq_gql_nodes.proofs.fragments.graph_of.Given as goal

-- the rows of the parts so far
abbrev pub invariant-loop-part : goal.invariant-loop-part
invariant-loop-part l = graph_view l.graph.items ≡ graph_of (get_name l.places) (map part_view (take l.part-index l.parts))
