use Rattle.std.proofs.Common.{◌≡◌, map, drop}
use Rattle.std.specs.List.{list_any}
use Rattle.hq_gql_tree.specs.Documents.{definition_view}
use Rattle.hq_live_text.specs.LiveText.{begins_subscription}
use Rattle.hq_live_text.proofs.keyword.has_subscription.Given as goal

-- one of all is a subscription where one of those that are left is
abbrev pub invariant-definitions : goal.invariant-definitions
invariant-definitions l = list_any begins_subscription (map definition_view (drop l.definition-index l.definitions)) ≡ list_any begins_subscription (map definition_view l.definitions)
