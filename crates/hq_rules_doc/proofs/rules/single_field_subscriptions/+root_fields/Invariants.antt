use Rattle.std.proofs.Common.{◌≡◌, ◌++◌, map, drop}
use Rattle.hq_gql_tree.specs.Selections.{selection_view, selections_of}
use Rattle.hq_rules_doc.specs.RootFields.{root_field_view}
use Rattle.hq_rules_doc.specs.Subscriptions.{root_fields}
use Rattle.hq_rules_doc.proofs.rules.single_field_subscriptions.+root_fields.Given as goal

-- the fields so far, and then those of the selections that are left, are all
abbrev pub invariant-add_root_fields-loop-selection : goal.invariant-add_root_fields-loop-selection
invariant-add_root_fields-loop-selection l =
    map root_field_view l.fields.items ++ root_fields (selections_of (map selection_view (drop l.selection-index l.selection-items)))
    ≡ map root_field_view l.initial.fields.items ++ root_fields (selections_of (map selection_view l.selection-items))
