use Rattle.std.proofs.Common.{refl, List, map}
use Rattle.hq_gql_tree.specs.declared.value.Directive.{Directive}
use Rattle.hq_gql_tree.specs.Values.{directive_view}
use Rattle.hq_schema.specs.Schema.{schema_view}
use Rattle.hq_gql_nodes.specs.Nodes.{node_view, directive_nodes, each_directive}
use Rattle.hq_gql_nodes.proofs.Nodes.{item_added}
use Rattle.hq_gql_nodes.proofs.values.add_each_directive.Goals as goal

pub loop-directive-preserved : goal.loop-directive-preserved
loop-directive-preserved c =
    let s = schema_view c.args.schema.now in
    item_added (λ (ds : List Directive). each_directive s c.args.location (map directive_view ds)) c.deref-directive-items.result.now c.loop-directive.directive-index c.directive-item.result
    (directive_nodes s c.args.location (directive_view c.directive-item.result)) (map node_view c.loop-directive.nodes.items)
    (map node_view c.add_directive.new.nodes.items) _ c.loop-directive.invariant c.loop-directive-test.true c.directive-item.is refl
    c.in_ok-add_directive.ensures
