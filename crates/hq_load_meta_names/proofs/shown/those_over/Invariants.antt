use Rattle.std.proofs.Common.{◌≡◌, ◌++◌, filter, drop}
use Rattle.hq_model.specs.Described.{scope_schema}
use Rattle.hq_load_meta_names.specs.Types.{is_over}
use Rattle.hq_load_meta_names.proofs.shown.those_over.Given as goal

-- those so far, and then those of the rest
abbrev pub invariant-loop-aggregate : goal.invariant-loop-aggregate
invariant-loop-aggregate l =
    l.over.items ++ filter (is_over (scope_schema l.scope) l.table l.columns) (drop l.aggregate-index l.aggregates)
    ≡ filter (is_over (scope_schema l.scope) l.table l.columns) l.aggregates
