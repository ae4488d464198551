use Rattle.std.proofs.Common.{◌≡◌, ℕ, List, map, take}
use Rattle.std.specs.List.{position_from}
use Rattle.hq_gql_tree.specs.Documents.{definition_view}
use Rattle.hq_gql_nodes.specs.Names.{get_name}
use Rattle.hq_gql_nodes.specs.Fragments.{is_fragment_named}
use Rattle.hq_gql_nodes.proofs.fragments.fragment_places.Given as goal

-- the fragments so far
abbrev pub invariant-loop-at : goal.invariant-loop-at
invariant-loop-at l = (q : List ℕ) → get_name l.places q ≡ position_from (is_fragment_named q) 0 (map definition_view (take l.at l.document.definitions.items))
