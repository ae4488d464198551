use Rattle.std.proofs.Common.{refl, List, map}
use Rattle.hq_gql_tree.specs.declared.selection.Selection.{Selection}
use Rattle.hq_gql_tree.specs.Selections.{selection_view, selections_of}
use Rattle.hq_gql_nodes.specs.Names.{get_name}
use Rattle.hq_gql_nodes.proofs.Nodes.{item_added}
use Rattle.hq_rules_doc.specs.Subscriptions.{root_spreads_of, root_spreads}
use Rattle.hq_rules_doc.proofs.rules.single_field_subscriptions.+root_spreads.Goals as goal

pub add_root_spreads-loop-selection-preserved : goal.add_root_spreads-loop-selection-preserved
add_root_spreads-loop-selection-preserved t c =
    let places = get_name c.args.places.now in
    item_added (λ (xs : List Selection). root_spreads places (selections_of (map selection_view xs))) c.deref-selection-items.result.now c.loop-selection.selection-index c.selection-item.result
    (root_spreads_of places (selection_view c.selection-item.result)) c.loop-selection.targets.items c.add_root_spread.new.targets.items _
    c.loop-selection.invariant c.loop-selection-test.true c.selection-item.is refl c.in_ok-add_root_spread.ensures
