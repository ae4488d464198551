use Rattle.std.proofs.Common.{refl, List, map, option_map, rules}
use Rattle.hq_schema.specs.Schema.{schema_view}
use Rattle.hq_gql_tree.specs.declared.value.Argument.{Argument}
use Rattle.hq_gql_tree.specs.declared.value.Argument.{the_lemmas}
use Rattle.hq_gql_tree.specs.declared.value.Placed.{Placed}
use Rattle.hq_gql_tree.specs.Values.{placed_view, argument_view, elements_of, members_of}
use Rattle.hq_gql_nodes.specs.Known.{place_view}
use Rattle.hq_gql_nodes.specs.Nodes.{node_view, value_nodes, elements_nodes, member_nodes, members_nodes}
use Rattle.hq_gql_nodes.proofs.Nodes.{item_added, node_added, nodes_then}
use Rattle.hq_gql_nodes.proofs.values.+values.Goals as goal

pub add_elements-loop-element-preserved : goal.add_elements-loop-element-preserved
add_elements-loop-element-preserved t c =
    let s = schema_view c.args.schema.now in
    let place = option_map place_view c.args.place in
    item_added (λ (es : List Placed). elements_nodes s place (elements_of (map placed_view es))) c.deref-element-items.result.now c.loop-element.element-index c.element-item.result
    (value_nodes s place (placed_view c.element-item.result)) (map node_view c.loop-element.nodes.items)
    (map node_view c.add_value.new.nodes.items) _ c.loop-element.invariant c.loop-element-test.true c.element-item.is refl
    c.in_ok-add_value.ensures

pub add_members-loop-member-preserved : goal.add_members-loop-member-preserved
add_members-loop-member-preserved t c =
    let s = schema_view c.args.schema.now in
    item_added (λ (ms : List Argument). members_nodes s c.args.input (members_of (map argument_view ms))) c.deref-member-items.result.now c.loop-member.member-index c.member-item.result
    (member_nodes s c.args.input (argument_view c.member-item.result)) (map node_view c.loop-member.nodes.items)
    (map node_view c.add_member.new.nodes.items) _ c.loop-member.invariant c.loop-member-test.true c.member-item.is refl
    c.in_ok-add_member.ensures

pub add_value-returns : goal.add_value-returns
add_value-returns t c =
    let old = c.args.nodes.now.items in
    nodes_then c.add_inside.result (map node_view old) (map node_view c.push.new.self.items) _ _ _ _
    (node_added node_view old _ _ c.in_ok-push.ensures.items) (search (rules, the_lemmas)) c.add_inside.ensures

pub add_member-returns : goal.add_member-returns
add_member-returns t c =
    let old = c.args.nodes.now.items in
    nodes_then c.add_value.result (map node_view old) (map node_view c.push.new.self.items) _ _ _ _
    (node_added node_view old _ _ c.in_ok-push.ensures.items) (search (rules, the_lemmas)) c.add_value.ensures
