use Rattle.std.proofs.Common.{◌≡◌, drop}
use Rattle.hq_copy_definition.specs.Refusals.{column_refusal, first_of}
use Rattle.hq_copy_tables.specs.Views.{source_view}
use Rattle.hq_model.specs.Described.{scope_schema}
use Rattle.hq_copy.proofs.kept_names.check_columns.Given as goal

-- none of the columns so far is refused
abbrev pub invariant-loop-c : goal.invariant-loop-c
invariant-loop-c l =
    let refused = first_of (column_refusal (scope_schema l.scope) (source_view l.source)) in
    refused (drop l.c-index l.c-items) ≡ refused l.c-items
