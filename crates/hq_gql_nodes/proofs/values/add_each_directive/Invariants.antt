use Rattle.std.proofs.Common.{◌≡◌, ◌++◌, map, drop}
use Rattle.hq_gql_tree.specs.Values.{directive_view}
use Rattle.hq_schema.specs.Schema.{schema_view}
use Rattle.hq_gql_nodes.specs.Nodes.{node_view, each_directive}
use Rattle.hq_gql_nodes.proofs.values.add_each_directive.Given as goal

-- the nodes so far, and then those of the directives that are left, are all
abbrev pub invariant-loop-directive : goal.invariant-loop-directive
invariant-loop-directive l =
    map node_view l.nodes.items ++ each_directive (schema_view l.schema) l.location (map directive_view (drop l.directive-index l.directive-items))
    ≡ map node_view l.initial.nodes.items ++ each_directive (schema_view l.schema) l.location (map directive_view l.directive-items)
