use Rattle.std.proofs.Common.{◌≡◌, ◌++◌, map, drop, option_map}
use Rattle.hq_gql_tree.specs.Values.{argument_view}
use Rattle.hq_schema.specs.Schema.{arg_view, schema_view}
use Rattle.hq_gql_nodes.specs.Nodes.{node_view, arguments_nodes}
use Rattle.hq_gql_nodes.proofs.values.add_arguments.Given as goal

-- the nodes so far, and then those of the arguments that are left, are all
abbrev pub invariant-loop-argument : goal.invariant-loop-argument
invariant-loop-argument l =
    map node_view l.nodes.items ++ arguments_nodes (schema_view l.schema) (option_map (λ defs. map arg_view defs.now) l.args) (map argument_view (drop l.argument-index l.argument-items))
    ≡ map node_view l.initial.nodes.items ++ arguments_nodes (schema_view l.schema) (option_map (λ defs. map arg_view defs.now) l.args) (map argument_view l.argument-items)
