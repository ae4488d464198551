use Rattle.std.proofs.Common.{◌≡◌, ◌++◌, map, drop}
use Rattle.std.specs.List.{flat_map}
use Rattle.hq_gql_tree.specs.View.{document_view}
use Rattle.hq_rules_doc.specs.RootFields.{root_field_view}
use Rattle.hq_rules_doc.specs.Subscriptions.{root_fields_at}
use Rattle.hq_rules_doc.proofs.rules.single_field_subscriptions.root_fields_among.Given as goal

-- the fields so far, and then those of the definitions that are left, are all
abbrev pub invariant-loop-at : goal.invariant-loop-at
invariant-loop-at l =
    map root_field_view l.fields.items ++ flat_map (root_fields_at (document_view l.document)) (drop l.at-index l.definitions)
    ≡ flat_map (root_fields_at (document_view l.document)) l.definitions
