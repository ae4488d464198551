-- The fragments of a document by name (GraphQL October 2021, 2.8), and what stands in a selection.
use Rattle.std.specs.Prelude.{ℕ, List, [], Option, Some, None, option_and_then, slice_get}
use Rattle.hq_gql_nodes.specs.Fragments.{fragment_named}
use Rattle.hq_gql_tree.specs.Documents.{DocumentTree, DefinitionTree, operation, fragment}
use Rattle.hq_gql_tree.specs.Selections.{SelectionTree, field, spread, inline, selections_in}

-- the selections of a definition, where it is a fragment
abbrev pub selections_at : Option DefinitionTree → List SelectionTree
selections_at None = []
selections_at (Some (operation o)) = []
selections_at (Some (fragment f)) = selections_in f.selections

-- the selections of the first fragment of a name, none where there is no such fragment
abbrev pub fragment_selections : DocumentTree → (name : List ℕ) → List SelectionTree
fragment_selections d name = selections_at (option_and_then (slice_get d) (fragment_named d name))

-- the selections that stand in a selection
abbrev pub inside : DocumentTree → SelectionTree → List SelectionTree
inside d (field h below) = selections_in below
inside d (inline h below) = selections_in below
inside d (spread s) = fragment_selections d s.name
