use Rattle.std.proofs.Common.{◌∙◌, ap, [], get_or, arith, rules}
use Rattle.hq_schema.specs.Schema.{schema_view}
use Rattle.hq_gql_tree.specs.Documents.{definition_view}
use Rattle.hq_gql_nodes.specs.Nodes.{variable_types}
use Rattle.hq_gql_nodes.proofs.Lists.{get_or-map_map}
use Rattle.hq_gql_nodes.proofs.parts.document_parts.Goals as goal

pub part_of-requires : goal.part_of-requires
part_of-requires c =
    let at = c.loop-at.at in
    c.types_at.ensures
    ∙ ap (λ ts. get_or ts at []) c.requires
    ∙ get_or-map_map definition_view (variable_types (schema_view c.args.schema.now)) c.args.document.now.definitions.items at c.definition-item.result [] (omega arith) (search rules)
