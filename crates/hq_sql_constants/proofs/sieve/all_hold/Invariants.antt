use Rattle.std.proofs.Common.{◌≡◌, drop}
use Rattle.hq_sql_constants.specs.Sieves.{all_hold}
use Rattle.hq_sql_constants.proofs.sieve.all_hold.Given as goal

-- the tests that are left tell what all do
abbrev pub invariant-loop-any : goal.invariant-loop-any
invariant-loop-any l = all_hold (drop l.any-index l.tests) l.row ≡ all_hold l.tests l.row
