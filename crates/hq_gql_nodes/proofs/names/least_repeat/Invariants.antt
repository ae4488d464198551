use Rattle.std.proofs.Common.{◌≡◌, ℕ, List, map, drop, bytes_eq}
use Rattle.std.specs.List.{list_any}
use Rattle.hq_gql_nodes.specs.Least.{earlier}
use Rattle.hq_gql_nodes.specs.Names.{has_name, name_view, repeat_behind, least_repeat}
use Rattle.hq_gql_nodes.proofs.names.least_repeat.Given as goal

-- the names so far are noted, and the lesser of the least so far and that of those that are left is the least
abbrev pub invariant-loop-entry : goal.invariant-loop-entry
invariant-loop-entry l =
    (before : List (List ℕ))
    × ((q : List ℕ) → has_name l.names q ≡ list_any (λ n. bytes_eq n q) before)
    × (earlier l.least (repeat_behind before (map name_view (drop l.entry-index l.list))) ≡ least_repeat (map name_view l.list))
