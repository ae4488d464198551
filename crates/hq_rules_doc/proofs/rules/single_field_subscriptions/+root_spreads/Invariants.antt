use Rattle.std.proofs.Common.{◌≡◌, ◌++◌, map, drop}
use Rattle.hq_gql_tree.specs.Selections.{selection_view, selections_of}
use Rattle.hq_gql_nodes.specs.Names.{get_name}
use Rattle.hq_rules_doc.specs.Subscriptions.{root_spreads}
use Rattle.hq_rules_doc.proofs.rules.single_field_subscriptions.+root_spreads.Given as goal

-- the places so far, and then those of the selections that are left, are all
abbrev pub invariant-add_root_spreads-loop-selection : goal.invariant-add_root_spreads-loop-selection
invariant-add_root_spreads-loop-selection l =
    l.targets.items ++ root_spreads (get_name l.places) (selections_of (map selection_view (drop l.selection-index l.selection-items)))
    ≡ l.initial.targets.items ++ root_spreads (get_name l.places) (selections_of (map selection_view l.selection-items))
