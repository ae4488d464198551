-- One more row of one number.
use Rattle.std.proofs.Common.{◌∙◌, ◌++◌, ◌∷◌, [], ap, List, ℕ}
use Rattle.std.proofs.lemmas.List.{map-append}
use Rattle.hq_gql_nodes.specs.Reach.{graph_view}
use Rattle.hq_overlap_classes.proofs.partition.Partition.push.Goals as goal

pub returns-clause-members : goal.returns-clause-members
returns-clause-members c =
    let old = c.args.self.now.members.items in
    ap graph_view c.in_ok-push-2.ensures.items
    ∙ (map-append (λ row. row.items) old (c.in_ok-members.members ∷ [])
    ∙ ap (λ (xs : List ℕ). graph_view old ++ (xs ∷ [])) c.in_ok-members.ensures)
