use Rattle.std.proofs.Common.{map, rules}
use Rattle.hq_gql_tree.specs.declared.value.Argument.{the_lemmas}
use Rattle.hq_gql_nodes.specs.Nodes.{node_view}
use Rattle.hq_gql_nodes.proofs.Nodes.{node_added, nodes_then}
use Rattle.hq_gql_nodes.proofs.values.add_argument.Goals as goal

pub returns : goal.returns
returns c =
    let old = c.args.nodes.now.items in
    nodes_then c.add_value.result (map node_view old) (map node_view c.push.new.self.items) _ _ _ _
    (node_added node_view old _ _ c.in_ok-push.ensures.items) (search (rules, the_lemmas)) c.add_value.ensures
