use Rattle.std.proofs.Common.{◌≡◌, ◌++◌, ◌+◌, map, drop, length}
use Rattle.hq_schema.specs.Schema.{schema_view}
use Rattle.hq_gql_tree.specs.Documents.{definition_view}
use Rattle.hq_gql_nodes.specs.Names.{get_name}
use Rattle.hq_overlap_sets.specs.Sets.{roots, below_roots, set_view}
use Rattle.hq_overlap_sets.proofs.definitions.document_arena.Given as goal

-- the sets so far, and then those of the definitions that are left, are all
abbrev pub invariant-loop-definition : goal.invariant-loop-definition
invariant-loop-definition l = record {
  own :
      map (set_view (schema_view l.schema)) l.roots.items
      ++ roots (schema_view l.schema) (get_name l.places) (l.first + length l.sets.items) (map definition_view (drop l.definition-index l.definition-items))
      ≡ roots (schema_view l.schema) (get_name l.places) l.first (map definition_view l.definition-items);
  inner :
      map (set_view (schema_view l.schema)) l.sets.items
      ++ below_roots (schema_view l.schema) (get_name l.places) (l.first + length l.sets.items) (map definition_view (drop l.definition-index l.definition-items))
      ≡ below_roots (schema_view l.schema) (get_name l.places) l.first (map definition_view l.definition-items);
}
