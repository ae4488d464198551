use Rattle.std.proofs.Common.{◌∙◌, arith, rules}
use Rattle.hq_gql_tree.specs.View.{document_view}
use Rattle.hq_gql_nodes.specs.Reach.{graph_view}
use Rattle.hq_rules_reach.proofs.LeastBelow.{least_more}
use Rattle.hq_rules_doc.specs.Subscriptions.{subscription_at}
use Rattle.hq_rules_doc.proofs.rules.single_field_subscriptions.least_wrong.Goals as goal

pub loop-at-preserved : goal.loop-at-preserved
loop-at-preserved c =
    c.earlier-least.ensures
    ∙ least_more (subscription_at (graph_view c.args.graph.now) (document_view c.args.document.now)) c.args.document.now.definitions.items
    c.loop-at.at c.definition-item.result c.loop-at.least c.in_ok-place.place (omega arith) (search rules) c.loop-at.invariant
    c.in_ok-place.ensures
