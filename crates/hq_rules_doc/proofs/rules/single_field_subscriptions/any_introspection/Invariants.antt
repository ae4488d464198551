use Rattle.std.proofs.Common.{◌≡◌, map, drop}
use Rattle.std.specs.List.{list_any}
use Rattle.hq_rules_doc.specs.RootFields.{root_field_view}
use Rattle.hq_rules_doc.specs.Subscriptions.{is_introspection}
use Rattle.hq_rules_doc.proofs.rules.single_field_subscriptions.any_introspection.Given as goal

-- none of the fields so far passes
abbrev pub invariant-loop-field : goal.invariant-loop-field
invariant-loop-field l = list_any is_introspection (map root_field_view (drop l.field-index l.fields)) ≡ list_any is_introspection (map root_field_view l.fields)
