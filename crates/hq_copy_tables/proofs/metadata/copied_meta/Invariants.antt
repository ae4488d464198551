use Rattle.std.proofs.Common.{◌≡◌, ◌++◌, map, drop}
use Rattle.hq_copy_definition.specs.Metadata.{copied_entry}
use Rattle.hq_copy_tables.specs.Originals.{meta_in, role_in, schema_in}
use Rattle.hq_copy_tables.specs.Views.{source_view}
use Rattle.hq_model.specs.Meta.{tracked_view}
use Rattle.hq_model.specs.Schema.{numbered}
use Rattle.hq_copy_tables.proofs.metadata.copied_meta.Given as goal

-- the entries so far, and then those of the tables that are left
abbrev pub invariant-loop-place : goal.invariant-loop-place
invariant-loop-place l =
    let entry = copied_entry (role_in l.original) (meta_in l.original) (schema_in l.original) in
    map tracked_view l.tracked ++ numbered entry l.place (map source_view (drop l.place l.sources)) ≡ numbered entry 0 (map source_view l.sources)
