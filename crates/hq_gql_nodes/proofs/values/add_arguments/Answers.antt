use Rattle.std.proofs.Common.{refl, List, map, option_map}
use Rattle.hq_gql_tree.specs.declared.value.Argument.{Argument}
use Rattle.hq_gql_tree.specs.Values.{argument_view}
use Rattle.hq_schema.specs.Schema.{arg_view, schema_view}
use Rattle.hq_gql_nodes.specs.Nodes.{node_view, argument_nodes, arguments_nodes}
use Rattle.hq_gql_nodes.proofs.Nodes.{item_added}
use Rattle.hq_gql_nodes.proofs.values.add_arguments.Goals as goal

pub loop-argument-preserved : goal.loop-argument-preserved
loop-argument-preserved c =
    let s = schema_view c.args.schema.now in
    let args = option_map (λ defs. map arg_view defs.now) c.args.args in
    item_added (λ (xs : List Argument). arguments_nodes s args (map argument_view xs)) c.deref-argument-items.result.now c.loop-argument.argument-index c.argument-item.result
    (argument_nodes s args (argument_view c.argument-item.result)) (map node_view c.loop-argument.nodes.items)
    (map node_view c.add_argument.new.nodes.items) _ c.loop-argument.invariant c.loop-argument-test.true c.argument-item.is refl
    c.in_ok-add_argument.ensures
