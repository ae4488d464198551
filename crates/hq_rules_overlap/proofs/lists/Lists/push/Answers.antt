-- The list is one more row.
use Rattle.std.proofs.Common.{◌∙◌, ◌++◌, ◌∷◌, [], ap, List, ℕ}
use Rattle.std.proofs.lemmas.List.{map-append}
use Rattle.hq_gql_nodes.specs.Reach.{graph_view}
use Rattle.hq_rules_overlap.proofs.lists.Lists.push.Goals as goal

pub returns : goal.returns
returns c =
    ap graph_view c.in_ok-push.ensures.items
    ∙ (map-append (λ row. row.items) c.args.self.now.rows.items (c.in_ok-copy.copy ∷ [])
    ∙ ap (λ (xs : List ℕ). graph_view c.args.self.now.rows.items ++ (xs ∷ [])) c.in_ok-copy.ensures.items)
