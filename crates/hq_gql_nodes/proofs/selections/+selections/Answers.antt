use Rattle.std.proofs.Common.{refl, List, map, rules}
use Rattle.hq_schema.specs.Schema.{schema_view}
use Rattle.hq_gql_tree.specs.declared.selection.Selection.{Selection, the_lemmas}
use Rattle.hq_gql_tree.specs.Selections.{selection_view, selections_of}
use Rattle.hq_gql_nodes.specs.Nodes.{node_view, selection_nodes, selections_nodes}
use Rattle.hq_gql_nodes.proofs.Nodes.{item_added, node_added, nodes_added, nodes_then}
use Rattle.hq_gql_nodes.proofs.selections.+selections.Goals as goal

pub add_selections-loop-selection-preserved : goal.add_selections-loop-selection-preserved
add_selections-loop-selection-preserved t c =
    let s = schema_view c.args.schema.now in
    item_added (λ (xs : List Selection). selections_nodes s c.args.parent (selections_of (map selection_view xs)))
    c.deref-selection-items.result.now c.loop-selection.selection-index c.selection-item.result
    (selection_nodes s c.args.parent (selection_view c.selection-item.result)) (map node_view c.loop-selection.nodes.items)
    (map node_view c.add_selection.new.nodes.items) _ c.loop-selection.invariant c.loop-selection-test.true c.selection-item.is refl
    c.in_ok-add_selection.ensures

pub add_field-returns : goal.add_field-returns
add_field-returns t c =
    let old = c.args.nodes.now.items in
    let head =
    nodes_added (map node_view old) (map node_view c.push.new.self.items) (map node_view c.add_field_head.new.nodes.items) _ _
    (node_added node_view old _ _ c.in_ok-push.ensures.items) c.in_ok-add_field_head.ensures in
    nodes_then c.add_selections.result (map node_view old) (map node_view c.add_field_head.new.nodes.items) _ _ _ _ head (search (rules, the_lemmas)) c.add_selections.ensures

pub add_inline-returns : goal.add_inline-returns
add_inline-returns t c =
    let old = c.args.nodes.now.items in
    let head =
    nodes_added (map node_view old) (map node_view c.push.new.self.items) (map node_view c.add_inline_head.new.nodes.items) _ _
    (node_added node_view old _ _ c.in_ok-push.ensures.items) c.in_ok-add_inline_head.ensures in
    nodes_then c.add_selections.result (map node_view old) (map node_view c.add_inline_head.new.nodes.items) _ _ _ _ head (search (rules, the_lemmas)) c.add_selections.ensures
