-- The fragments of a document by their names, and what its definitions spread. Of two fragments of one name the first is meant.
use Rattle.std.specs.Prelude.{ℕ, List, Bool, false, map, bytes_eq, Option, None}
use Rattle.std.specs.List.{filter_map, position_from}
use Rattle.hq_gql_tree.specs.Documents.{DefinitionTree, operation, fragment, DocumentTree}
use Rattle.hq_gql_nodes.specs.Nodes.{NodeTree, spread_node, PartTree}
use Rattle.hq_gql_nodes.specs.Reach.{Graph}

abbrev pub is_fragment_named : (name : List ℕ) → DefinitionTree → Bool
is_fragment_named name (operation o) = false
is_fragment_named name (fragment f) = bytes_eq f.name name

-- the places of fragments among the definitions of a document, by their names
abbrev pub Places : Type 0
Places = List ℕ → Option ℕ

abbrev pub fragment_named : DocumentTree → Places
fragment_named d name = position_from (is_fragment_named name) 0 d

-- the fragment that a node spreads
abbrev pub spread_target : Places → NodeTree → Option ℕ
spread_target places (spread_node s parent) = places s.name
spread_target places n = None

-- the fragments that some nodes spread, and that each part of a document spreads
abbrev pub spread_targets : Places → List NodeTree → List ℕ
spread_targets places nodes = filter_map (spread_target places) nodes

abbrev pub graph_of : Places → List PartTree → Graph
graph_of places parts = map (λ p. spread_targets places p.nodes) parts
