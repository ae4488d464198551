use Rattle.std.proofs.Common.{refl}
use Rattle.hq_model.specs.Binding.{bound_operand, bound_each}
use Rattle.hq_model.specs.Tests.{reads}
use Rattle.hq_model.proofs.Steps.{read_more}
use Rattle.hq_model_binding.proofs.operand.bind_each.Goals as goal

-- an operand is bound, and the loop goes on behind it
pub loop-operand-preserved : goal.loop-operand-preserved
loop-operand-preserved c =
    read_more (bound_each (reads c.args.test c.args.ty) c.args.session.now.vars) (bound_operand (reads c.args.test c.args.ty) c.args.session.now.vars) (λ o os. refl)
    c.as_slice-operand-items.result.now c.loop-operand.operand-index c.operand-item.result _ _ _ _ c.loop-operand.invariant
    c.loop-operand-test.true c.operand-item.is c.in_ok-bind_operand.ensures c.in_ok-push.ensures.ok
