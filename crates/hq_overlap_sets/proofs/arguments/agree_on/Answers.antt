-- One more name.
use Rattle.std.proofs.Common.{◌∙◌, sym, arith}
use Rattle.hq_overlap_sets.specs.Literals.{given_in}
use Rattle.hq_overlap_sets.proofs.ValueSteps.{agree_more, agree_apart}
use Rattle.hq_overlap_sets.proofs.arguments.agree_on.Goals as goal

pub loop-argument-preserved : goal.loop-argument-preserved
loop-argument-preserved c =
    agree_more (given_in c.args.left.now) (given_in c.args.right.now) c.args.names.now c.loop-argument.argument-index c.argument-item.result (omega arith) c.argument-item.is
    (sym c.if-not-agree_at.ensures)
    ∙ c.loop-argument.invariant

pub returns-then-not-agree_at : goal.returns-then-not-agree_at
returns-then-not-agree_at c =
    sym (agree_apart (given_in c.args.left.now) (given_in c.args.right.now) c.args.names.now c.loop-argument.argument-index c.argument-item.result (omega arith) c.argument-item.is
    (sym c.if-not-agree_at.ensures))
    ∙ c.loop-argument.invariant
