use Rattle.std.proofs.Common.{◌≡◌, ◌++◌, filter, drop}
use Rattle.hq_schema_of_role.specs.Shown.{is_over}
use Rattle.hq_schema_of_role.proofs.columns.those_over.Given as goal

abbrev pub invariant-loop-aggregate : goal.invariant-loop-aggregate
invariant-loop-aggregate l =
    l.over.items ++ filter (is_over l.columns) (drop l.aggregate-index l.aggregates) ≡ filter (is_over l.columns) l.aggregates
