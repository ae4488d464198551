use Rattle.std.proofs.Common.{◌≡◌, ◌++◌, map, drop}
use Rattle.std.specs.List.{filter_map}
use Rattle.hq_model.specs.Meta.{tracked_view, meta_view}
use Rattle.hq_schema_of_role.specs.Shown.{shown_entry}
use Rattle.hq_schema_of_role.proofs.see.shown_tables.Given as goal

abbrev pub invariant-loop-tracked : goal.invariant-loop-tracked
invariant-loop-tracked l =
    l.shown ++ filter_map (shown_entry l.catalog.tables (meta_view l.meta) l.role) (map tracked_view (drop l.tracked-index l.tracked-items))
    ≡ filter_map (shown_entry l.catalog.tables (meta_view l.meta) l.role) (map tracked_view l.tracked-items)
