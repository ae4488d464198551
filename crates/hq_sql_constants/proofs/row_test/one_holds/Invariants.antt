use Rattle.std.proofs.Common.{◌≡◌, false, take}
use Rattle.hq_sql_constants.specs.RowTests.{one_holds}
use Rattle.hq_sql_constants.proofs.row_test.one_holds.Given as goal

-- none of those so far is true
abbrev pub invariant-loop-test : goal.invariant-loop-test
invariant-loop-test l = one_holds (take l.test-index l.tests) l.row ≡ false
