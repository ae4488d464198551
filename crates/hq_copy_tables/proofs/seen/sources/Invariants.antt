use Rattle.std.proofs.Common.{◌≡◌, ◌++◌, map, drop}
use Rattle.hq_copy_definition.specs.Sources.{sources, sources_in}
use Rattle.hq_copy_tables.specs.Views.{source_view}
use Rattle.hq_model.specs.Meta.{meta_view, tracked_view}
use Rattle.hq_copy_tables.proofs.seen.sources.Given as goal

-- those so far, and then those of the tables that are left
abbrev pub invariant-loop-entry : goal.invariant-loop-entry
invariant-loop-entry l =
    map source_view l.all.items ++ sources_in l.role (meta_view l.meta) (map tracked_view (drop l.entry-index l.entry-items)) ≡ sources l.role (meta_view l.meta)
