use Rattle.std.proofs.Common.{◌≡◌, map, take, option_map}
use Rattle.hq_schema.specs.Schema.{schema_view, type_ref_view}
use Rattle.hq_gql_tree.specs.Documents.{definition_view}
use Rattle.hq_gql_nodes.specs.Nodes.{variable_types}
use Rattle.hq_gql_nodes.proofs.variables.variable_types.Given as goal

-- the types of the definitions so far
abbrev pub invariant-loop-definition : goal.invariant-loop-definition
invariant-loop-definition l =
    map (λ types. map (λ t. option_map type_ref_view t) types.items) l.all.items
    ≡ map (variable_types (schema_view l.schema)) (map definition_view (take l.definition-index l.definition-items))
