use Rattle.std.proofs.Common.{map, rules}
use Rattle.hq_gql_tree.specs.declared.selection.Inline.{the_lemmas}
use Rattle.hq_gql_nodes.specs.Nodes.{node_view}
use Rattle.hq_gql_nodes.proofs.Nodes.{nodes_then}
use Rattle.hq_gql_nodes.proofs.selections.add_inline_head.Goals as goal

pub returns : goal.returns
returns c =
    nodes_then c.add_directives.result (map node_view c.args.nodes.now.items) (map node_view c.add_condition.new.nodes.items) _ _ _ _
    c.in_ok-add_condition.ensures (search (rules, the_lemmas)) c.add_directives.ensures
