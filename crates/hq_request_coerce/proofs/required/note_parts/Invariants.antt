use Rattle.std.proofs.Common.{◌≡◌, ◌||◌, ℕ, List, map, take, bytes_eq}
use Rattle.std.specs.List.{list_any}
use Rattle.hq_gql_nodes.specs.Names.{has_name}
use Rattle.hq_gql_nodes.specs.Nodes.{part_view}
use Rattle.hq_request_coerce.specs.Required.{required_at}
use Rattle.hq_request_coerce.proofs.required.note_parts.Given as goal

-- the names before, and those of the parts so far
abbrev pub invariant-loop-place : goal.invariant-loop-place
invariant-loop-place l =
    (q : List ℕ) → has_name l.names q ≡ (has_name l.initial.names q || list_any (λ place. list_any (λ n. bytes_eq n q) (required_at (map part_view l.parts) place)) (take l.place-index l.places))
