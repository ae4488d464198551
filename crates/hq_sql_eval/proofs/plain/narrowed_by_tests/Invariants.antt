use Rattle.std.proofs.Common.{◌≡◌, map, take}
use Rattle.hq_sql_eval.specs.Narrowed.{narrowed}
use Rattle.hq_sql_constants.specs.RowTests.{one_holds}
use Rattle.hq_sql_eval.proofs.plain.narrowed_by_tests.Given as goal

-- the truths at the rows so far
abbrev pub invariant-loop-position : goal.invariant-loop-position
invariant-loop-position l = l.truths.items ≡ narrowed (take l.position l.before) (take l.position (map (one_holds l.tests) l.rows))
