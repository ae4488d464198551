use Rattle.std.proofs.Common.{◌≡◌, drop}
use Rattle.hq_model.specs.Described.{scope_schema}
use Rattle.hq_load_meta_names.specs.Types.{is_over}
use Rattle.hq_load_meta_names.proofs.shown.is_over.Given as goal

-- the column is one of those that are left
abbrev pub invariant-loop-column : goal.invariant-loop-column
invariant-loop-column l =
    is_over (scope_schema l.scope) l.table (drop l.column-index l.columns) l.aggregate ≡ is_over (scope_schema l.scope) l.table l.columns l.aggregate
