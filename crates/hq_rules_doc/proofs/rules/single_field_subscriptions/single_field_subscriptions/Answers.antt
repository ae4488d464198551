use Rattle.std.proofs.Common.{◌∙◌, ap}
use Rattle.hq_gql_tree.specs.View.{document_view}
use Rattle.hq_gql_nodes.specs.Reach.{graph_view}
use Rattle.hq_rules_doc.specs.Subscriptions.{single_field_subscriptions}
use Rattle.hq_rules_doc.proofs.rules.single_field_subscriptions.single_field_subscriptions.Goals as goal

pub returns : goal.returns
returns c =
    c.in_ok-place.ensures
    ∙ ap (λ g. single_field_subscriptions g (document_view c.args.document.now)) (ap graph_view c.deref.ensures.value ∙ c.in_ok-graph.ensures)
