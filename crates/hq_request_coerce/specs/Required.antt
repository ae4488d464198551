-- The variables that stand where null can't (GraphQL October 2021, 3.12; our own reading: a null for such a variable is refused
-- with the variables, wherever its operation uses it).
use Rattle.std.specs.Prelude.{ℕ, List, [], ◌∷◌, map, Bool, if◌then◌else◌, Option, Some, None, slice_index_or, bytes_eq}
use Rattle.std.specs.List.{filter_map, list_any}
use Rattle.hq_schema.specs.Schema.{SchemaTree}
use Rattle.hq_gql_tree.specs.Documents.{DocumentTree}
use Rattle.hq_gql_tree.specs.Values.{ValueTree, variable}
use Rattle.hq_gql_nodes.specs.Fragments.{fragment_named, graph_of}
use Rattle.hq_gql_nodes.specs.Known.{PlaceTree}
use Rattle.hq_gql_nodes.specs.Nodes.{NodeTree, value_node, PartTree, document_parts}
use Rattle.hq_gql_nodes.specs.Reach.{Graph, reached}
use Rattle.hq_request_coerce.specs.Coercion.{is_non_null}

-- the variable that a node uses at a place of a type without null
abbrev pub required_in : Option PlaceTree → ValueTree → Option (List ℕ)
required_in (Some p) (variable name) = if is_non_null p.ty then Some name else None
required_in place v = None

abbrev pub required_of : NodeTree → Option (List ℕ)
required_of (value_node v place) = required_in place v.value
required_of n = None

-- the names of those that some nodes use, and that the definition at a place uses
abbrev pub required_names : List NodeTree → List (List ℕ)
required_names nodes = filter_map required_of nodes

abbrev pub required_at : List PartTree → ℕ → List (List ℕ)
required_at parts place = slice_index_or (map (λ p. required_names p.nodes) parts) place []

-- the operation at a place uses the variable of a name so, or a fragment that it reaches does
abbrev pub is_required_in : List PartTree → Graph → (operation : ℕ) → (name : List ℕ) → Bool
is_required_in parts g operation name =
    list_any (λ place. list_any (λ n. bytes_eq n name) (required_at parts place)) (reached g (operation ∷ []))

abbrev pub is_required : SchemaTree → DocumentTree → (operation : ℕ) → (name : List ℕ) → Bool
is_required s d operation name = is_required_in (document_parts s d) (graph_of (fragment_named d) (document_parts s d)) operation name
