use Rattle.std.proofs.Common.{◌≡◌, ◌++◌, drop}
use Rattle.hq_base.specs.Due.{mapped}
use Rattle.hq_model.specs.Binding.{bound_each}
use Rattle.hq_model.specs.Tests.{reads}
use Rattle.hq_model_binding.proofs.operand.bind_each.Given as goal

abbrev pub invariant-loop-operand : goal.invariant-loop-operand
invariant-loop-operand l =
    bound_each (reads l.test l.ty) l.session.vars l.operands ≡ mapped (λ os. l.bound ++ os) (bound_each (reads l.test l.ty) l.session.vars (drop l.operand-index l.operand-items))
