use Rattle.std.proofs.Common.{◌≡◌, ◌||◌, ℕ, List, map, take, bytes_eq}
use Rattle.std.specs.List.{list_any}
use Rattle.hq_gql_nodes.specs.Names.{has_name}
use Rattle.hq_gql_nodes.specs.Nodes.{node_view}
use Rattle.hq_request_coerce.specs.Required.{required_names}
use Rattle.hq_request_coerce.proofs.required.note_required.Given as goal

-- the names before, and those of the nodes so far
abbrev pub invariant-loop-node : goal.invariant-loop-node
invariant-loop-node l =
    (q : List ℕ) → has_name l.names q ≡ (has_name l.initial.names q || list_any (λ n. bytes_eq n q) (required_names (map node_view (take l.node-index l.nodes))))
