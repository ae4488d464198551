use Rattle.std.proofs.Common.{◌∙◌, ◌||◌, ℕ, [], ◌∷◌, Bool, ap, map, bytes_eq}
use Rattle.std.specs.List.{list_any}
use Rattle.hq_gql_nodes.specs.Nodes.{part_view}
use Rattle.hq_gql_nodes.specs.Reach.{graph_view, reached}
use Rattle.hq_request_coerce.specs.Required.{required_at}
use Rattle.hq_gql_nodes.proofs.SameMembers.{any_same}
use Rattle.hq_request_coerce.proofs.NoNames.{none_noted}
use Rattle.hq_request_coerce.proofs.required.required_names.Goals as goal

pub returns : goal.returns
returns c = λ q.
    let uses : ℕ → Bool = λ place. list_any (λ n. bytes_eq n q) (required_at (map part_view c.args.parts.now) place) in
    c.in_ok-note_parts.ensures q
    ∙ ap (λ b. b || list_any uses c.deref.result.now) (none_noted c.new-names.result q c.new-names.ensures.empty)
    ∙ ap (list_any uses) c.deref.ensures.value
    ∙ any_same uses c.in_ok-places.places.items (reached (graph_view c.args.graph.now) (c.args.operation ∷ [])) c.in_ok-places.ensures
