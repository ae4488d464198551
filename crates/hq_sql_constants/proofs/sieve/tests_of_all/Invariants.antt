use Rattle.std.proofs.Common.{take}
use Rattle.hq_sql_access.specs.View.{world_of}
use Rattle.hq_sql_conjuncts.specs.Conjuncts.{all_kept, lent_views}
use Rattle.hq_sql_constants.specs.Sieves.{IsSieve}
use Rattle.hq_sql_constants.proofs.sieve.tests_of_all.Given as goal

-- the tests of the conditions so far
abbrev pub invariant-loop-pred : goal.invariant-loop-pred
invariant-loop-pred l = IsSieve (world_of l.world) l.columns l.alias (all_kept (lent_views (take l.pred-index l.preds))) (record { tests = l.tests; whole = l.whole })
