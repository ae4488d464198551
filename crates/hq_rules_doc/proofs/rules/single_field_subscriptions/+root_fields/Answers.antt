use Rattle.std.proofs.Common.{refl, List, map}
use Rattle.hq_gql_tree.specs.declared.selection.Selection.{Selection}
use Rattle.hq_gql_tree.specs.Selections.{selection_view, selections_of}
use Rattle.hq_gql_nodes.proofs.Nodes.{item_added}
use Rattle.hq_rules_doc.specs.RootFields.{root_field_view}
use Rattle.hq_rules_doc.specs.Subscriptions.{root_fields_of, root_fields}
use Rattle.hq_rules_doc.proofs.rules.single_field_subscriptions.+root_fields.Goals as goal

pub add_root_fields-loop-selection-preserved : goal.add_root_fields-loop-selection-preserved
add_root_fields-loop-selection-preserved t c =
    item_added (λ (xs : List Selection). root_fields (selections_of (map selection_view xs))) c.deref-selection-items.result.now c.loop-selection.selection-index c.selection-item.result
    (root_fields_of (selection_view c.selection-item.result)) (map root_field_view c.loop-selection.fields.items)
    (map root_field_view c.add_root_field.new.fields.items) _ c.loop-selection.invariant c.loop-selection-test.true c.selection-item.is
    refl c.in_ok-add_root_field.ensures
