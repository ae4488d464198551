use Rattle.std.proofs.Common.{◌≡◌, ◌++◌, map, drop, flat_map}
use Rattle.hq_model.specs.Meta.{MetaTree, tracked_view}
use Rattle.hq_model.specs.Schema.{schema_of}
use Rattle.hq_model.specs.SchemaNames.{roots_of}
use Rattle.hq_copy.proofs.schema_names.all_roots.Given as goal

-- those so far, and then those of the tables that are left
abbrev pub invariant-loop-tracked : goal.invariant-loop-tracked
invariant-loop-tracked l =
    (m : MetaTree)
    → l.names ++ flat_map (roots_of (schema_of l.tables m)) (map tracked_view (drop l.tracked-index l.tracked-items))
    ≡ flat_map (roots_of (schema_of l.tables m)) (map tracked_view l.tracked-items)
