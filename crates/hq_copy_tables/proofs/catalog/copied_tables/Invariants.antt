use Rattle.std.proofs.Common.{◌≡◌, map, take}
use Rattle.hq_copy_definition.specs.Tables.{copied_table}
use Rattle.hq_copy_tables.specs.Originals.{meta_in, role_in, schema_in}
use Rattle.hq_copy_tables.specs.Views.{source_view}
use Rattle.hq_copy_tables.proofs.catalog.copied_tables.Given as goal

-- the tables so far
abbrev pub invariant-loop-source : goal.invariant-loop-source
invariant-loop-source l =
    l.tables ≡ map (copied_table (role_in l.original) (meta_in l.original) (schema_in l.original)) (map source_view (take l.source-index l.sources))
