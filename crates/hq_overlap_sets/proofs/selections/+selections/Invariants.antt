use Rattle.std.proofs.Common.{◌≡◌, ◌++◌, ◌+◌, map, drop, length}
use Rattle.hq_gql_tree.specs.Selections.{selection_view, selections_of}
use Rattle.hq_schema.specs.Schema.{schema_view}
use Rattle.hq_gql_nodes.specs.Names.{get_name}
use Rattle.hq_overlap_sets.specs.Sets.{field_count, own_fields, own_spreads, inner_sets, entry_view, set_view}
use Rattle.hq_overlap_sets.proofs.selections.+selections.Given as goal

-- what is built so far, and then what the selections that are left give, are all
abbrev pub invariant-add_selections-loop-selection : goal.invariant-add_selections-loop-selection
invariant-add_selections-loop-selection l = record {
  as_long :
      length l.sets.items + field_count (selections_of (map selection_view (drop l.selection-index l.selection-items)))
      ≡ length l.initial.sets.items + field_count (selections_of (map selection_view l.selection-items));
  own :
      map (entry_view (schema_view l.schema)) l.set.entries.items
      ++ own_fields (schema_view l.schema) (l.first + length l.sets.items) l.parent (selections_of (map selection_view (drop l.selection-index l.selection-items)))
      ≡ map (entry_view (schema_view l.schema)) l.initial.set.entries.items
      ++ own_fields (schema_view l.schema) (l.first + length l.initial.sets.items) l.parent (selections_of (map selection_view l.selection-items));
  spread :
      l.set.spreads.items ++ own_spreads (get_name l.places) (selections_of (map selection_view (drop l.selection-index l.selection-items)))
      ≡ l.initial.set.spreads.items ++ own_spreads (get_name l.places) (selections_of (map selection_view l.selection-items));
  inner :
      map (set_view (schema_view l.schema)) l.sets.items
      ++ inner_sets (schema_view l.schema) (get_name l.places) (l.first + length l.sets.items) l.parent (selections_of (map selection_view (drop l.selection-index l.selection-items)))
      ≡ map (set_view (schema_view l.schema)) l.initial.sets.items
      ++ inner_sets (schema_view l.schema) (get_name l.places) (l.first + length l.initial.sets.items) l.parent (selections_of (map selection_view l.selection-items));
}
