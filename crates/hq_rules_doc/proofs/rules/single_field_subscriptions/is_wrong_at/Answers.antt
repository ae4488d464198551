use Rattle.std.proofs.Common.{◌∙◌, ap, sym, map, subst, List, ℕ, [], ◌∷◌}
use Rattle.hq_gql_tree.specs.View.{document_view}
use Rattle.hq_gql_nodes.specs.Reach.{graph_view, reached}
use Rattle.hq_rules_doc.specs.RootFields.{root_field_view}
use Rattle.hq_rules_doc.specs.Subscriptions.{root_fields_at, are_wrong_root_fields}
use Rattle.hq_rules_doc.proofs.RootKeys.{wrong_same}
use Rattle.hq_rules_reach.proofs.SameMembers.{SameMembers}
use Rattle.hq_rules_doc.proofs.rules.single_field_subscriptions.is_wrong_at.Goals as goal

pub returns : goal.returns
returns c =
    let start = reached (graph_view c.args.graph.now) (c.args.at ∷ []) in
    let same : SameMembers c.deref.result.now start = subst (λ (xs : List ℕ). SameMembers xs start) (sym c.deref.ensures.value) c.in_ok-definitions.ensures in
    c.are_wrong_root_fields.ensures
    ∙ ap (λ xs. are_wrong_root_fields (map root_field_view xs)) c.deref-2.ensures.value
    ∙ ap are_wrong_root_fields c.in_ok-fields.ensures
    ∙ wrong_same (root_fields_at (document_view c.args.document.now)) _ start same
