use Rattle.std.proofs.Common.{◌≡◌, map, take}
use Rattle.hq_schema.specs.Schema.{schema_view}
use Rattle.hq_gql_tree.specs.Documents.{definition_view}
use Rattle.hq_gql_nodes.specs.Nodes.{part_view, document_parts}
use Rattle.hq_gql_nodes.proofs.parts.document_parts.Given as goal

-- the parts of the definitions so far
abbrev pub invariant-loop-at : goal.invariant-loop-at
invariant-loop-at l = map part_view l.parts.items ≡ document_parts (schema_view l.schema) (map definition_view (take l.at l.document.definitions.items))
