use Rattle.std.proofs.Common.{◌≡◌, ◌++◌, map, drop}
use Rattle.hq_gql_tree.specs.Selections.{selection_view, selections_of}
use Rattle.hq_schema.specs.Schema.{schema_view}
use Rattle.hq_gql_nodes.specs.Nodes.{node_view, selections_nodes}
use Rattle.hq_gql_nodes.proofs.selections.+selections.Given as goal

-- the nodes so far, and then those of the selections that are left, are all
abbrev pub invariant-add_selections-loop-selection : goal.invariant-add_selections-loop-selection
invariant-add_selections-loop-selection l =
    map node_view l.nodes.items ++ selections_nodes (schema_view l.schema) l.parent (selections_of (map selection_view (drop l.selection-index l.selection-items)))
    ≡ map node_view l.initial.nodes.items ++ selections_nodes (schema_view l.schema) l.parent (selections_of (map selection_view l.selection-items))
