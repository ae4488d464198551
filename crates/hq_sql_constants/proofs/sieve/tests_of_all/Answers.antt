use Rattle.std.proofs.Common.{◌<◌, ◌∙◌, length, ap, arith}
use Rattle.hq_sql_access.specs.View.{world_of}
use Rattle.hq_sql_constants.proofs.Sieving.{sieve_other, sieve_test}
use Rattle.hq_sql_constants.proofs.sieve.tests_of_all.Goals.{in-Some+in_ok-push-in-Some, in-None}
use Rattle.hq_sql_constants.proofs.sieve.tests_of_all.Goals as goal

pub loop-pred-preserved : goal.loop-pred-preserved
loop-pred-preserved c =
    let w = world_of c.args.world.now in
    let columns = c.args.columns.now in
    let alias = c.args.alias.now in
    let ps = c.args.preds.now in
    let i = c.loop-pred.pred-index in
    let lt : i < length ps = omega (arith, c.loop-pred-test.true) in
    elim c.match-branch-2.branch [
      | in-Some+in_ok-push-in-Some b ↦
          sieve_test w columns alias ps i c.pred-item.result _ _ b.in-Some.found lt c.pred-item.is c.loop-pred.invariant
          (rw b.in-Some.is at c.in_ok-found.ensures) (ap (λ v. v.items) b.tests-is ∙ b.in_ok-push-in-Some.ensures.items) b.whole-is
      | in-None b ↦ sieve_other w columns alias ps i c.pred-item.result _ _ lt c.pred-item.is c.loop-pred.invariant (ap (λ v. v.items) b.tests-is) b.whole-is
    ]
