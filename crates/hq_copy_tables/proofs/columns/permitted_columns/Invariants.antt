use Rattle.std.proofs.Common.{◌≡◌, map, take}
use Rattle.hq_copy_definition.specs.Tables.{copied_column}
use Rattle.hq_copy_tables.specs.Views.{source_view}
use Rattle.hq_model.specs.Described.{scope_schema}
use Rattle.hq_copy_tables.proofs.columns.permitted_columns.Given as goal

-- the columns so far
abbrev pub invariant-loop-c : goal.invariant-loop-c
invariant-loop-c l =
    l.columns ≡ map (copied_column (scope_schema l.scope) (source_view l.source).permission (source_view l.source).entry.table) (take l.c-index l.c-items)
