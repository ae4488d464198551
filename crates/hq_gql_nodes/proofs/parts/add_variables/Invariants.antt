use Rattle.std.proofs.Common.{◌≡◌, ◌++◌, map, drop}
use Rattle.hq_schema.specs.Schema.{schema_view}
use Rattle.hq_gql_tree.specs.Documents.{var_def_view}
use Rattle.hq_gql_nodes.specs.Nodes.{node_view, variables_nodes}
use Rattle.hq_gql_nodes.proofs.parts.add_variables.Given as goal

-- the nodes so far, and then those of the variables that are left, are all
abbrev pub invariant-loop-at : goal.invariant-loop-at
invariant-loop-at l =
    map node_view l.nodes.items ++ variables_nodes (schema_view l.schema) (map var_def_view (drop l.at l.vars.items))
    ≡ map node_view l.initial.nodes.items ++ variables_nodes (schema_view l.schema) (map var_def_view l.vars.items)
