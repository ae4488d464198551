-- Rules of what definitions spread (GraphQL October 2021, 5.5.1.4, 5.5.2.2).
use Rattle.std.specs.Prelude.{ℕ, zero, suc, List, [], Bool, false, not, Option, None, bytes_eq, option_and_then, slice_get, slice_index_or, length}
use Rattle.std.specs.List.{list_any}
use Rattle.hq_gql_tree.specs.Documents.{DefinitionTree, operation, fragment, DocumentTree}
use Rattle.hq_gql_nodes.specs.Least.{earlier, at_if, least_of}
use Rattle.hq_gql_nodes.specs.Nodes.{NodeTree, spread_node, PartTree}
use Rattle.hq_gql_nodes.specs.Reach.{Graph, has, reached}

-- the least place that f gives for a number below another
abbrev pub least_below : (ℕ → Option ℕ) → ℕ → Option ℕ
least_below f zero = None
least_below f (suc n) = earlier (least_below f n) (f n)

-- the same for the places of a document's definitions, with the definition at each
abbrev pub place_at : (ℕ → DefinitionTree → Option ℕ) → DocumentTree → ℕ → Option ℕ
place_at f d at = option_and_then (f at) (slice_get d at)

abbrev pub least_at : (ℕ → DefinitionTree → Option ℕ) → DocumentTree → Option ℕ
least_at f d = least_below (place_at f d) (length d)

-- whether a node spreads the fragment of a name
abbrev pub spreads : (name : List ℕ) → NodeTree → Bool
spreads name (spread_node x parent) = bytes_eq x.name name
spreads name n = false

abbrev pub is_spread : List PartTree → (name : List ℕ) → Bool
is_spread parts name = list_any (λ p. list_any (spreads name) p.nodes) parts

-- a fragment whose name is not spread, by a test of names
abbrev pub unused_by : (spread_name : List ℕ → Bool) → DefinitionTree → Option ℕ
unused_by spread_name (operation o) = None
unused_by spread_name (fragment f) = at_if (not (spread_name f.name)) f.at

-- 5.5.1.4: a fragment that no spread of the document names
abbrev pub no_unused_fragments : DocumentTree → List PartTree → Option ℕ
no_unused_fragments d parts = least_of (unused_by (is_spread parts)) d

-- whether spreads lead from the definition at a place back to it
abbrev pub leads_back : Graph → ℕ → Bool
leads_back g at = has (reached g (slice_index_or g at [])) at

abbrev pub cycle_at : Graph → ℕ → DefinitionTree → Option ℕ
cycle_at g at (operation o) = None
cycle_at g at (fragment f) = at_if (leads_back g at) f.at

-- 5.5.2.2: a fragment from which spreads lead back to it
abbrev pub no_fragment_cycles : Graph → DocumentTree → Option ℕ
no_fragment_cycles g d = least_at (cycle_at g) d
