use Rattle.std.proofs.Common.{◌∙◌, ◌++◌, ap, sym, map, take, arith, rules}
use Rattle.std.specs.Option.{option_to_list}
use Rattle.hq_gql_nodes.specs.Names.{get_name}
use Rattle.hq_gql_nodes.specs.Nodes.{node_view}
use Rattle.hq_gql_nodes.specs.Fragments.{spread_target, spread_targets}
use Rattle.hq_gql_nodes.proofs.Lists.{filter_map_more}
use Rattle.hq_gql_nodes.proofs.fragments.spread_targets.Goals as goal

pub loop-node-preserved : goal.loop-node-preserved
loop-node-preserved c =
    let places = get_name c.args.places.now in
    let n = c.node-item.result in
    c.in_ok-push_target.ensures
    ∙ ap (λ xs. xs ++ option_to_list c.spread_target.result) c.loop-node.invariant
    ∙ ap (λ o. spread_targets places (map node_view (take c.loop-node.node-index c.args.nodes.now)) ++ option_to_list o) c.spread_target.ensures
    ∙ sym (filter_map_more (spread_target places) node_view c.args.nodes.now c.loop-node.node-index n (omega arith) (search rules))
