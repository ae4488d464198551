use Rattle.std.proofs.Common.{◌≡◌}
use Rattle.hq_gql_tree.specs.View.{document_view}
use Rattle.hq_gql_nodes.specs.Reach.{graph_view}
use Rattle.hq_rules_reach.specs.Spreads.{least_below, place_at}
use Rattle.hq_rules_doc.specs.Subscriptions.{subscription_at}
use Rattle.hq_rules_doc.proofs.rules.single_field_subscriptions.least_wrong.Given as goal

-- the least place of the definitions so far
abbrev pub invariant-loop-at : goal.invariant-loop-at
invariant-loop-at l = l.least ≡ least_below (place_at (subscription_at (graph_view l.graph) (document_view l.document)) (document_view l.document)) l.at
