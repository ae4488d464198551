use Rattle.std.proofs.Common.{◌∙◌, sym, ◌<◌, length, arith}
use Rattle.hq_sql_tree.specs.View.{out_view}
use Rattle.hq_sql_tree.specs.WellFormed.{is_value}
use Rattle.hq_sql_check.specs.Scopes.{scope_view}
use Rattle.hq_sql_tree.proofs.Next.{all_pass, all_fail}
use Rattle.hq_sql_check.proofs.parts.are_outputs.Goals as goal

pub returns-then-not-branch : goal.returns-then-not-branch
returns-then-not-branch c =
    let items = c.deref-out-items.result.now in
    let i = c.loop-out.out-index in
    let within : i < length items = omega arith in
    all_fail (λ o. is_value (scope_view c.args.scope.now) o.value) out_view items c.args.outs.now.items i c.out-item.result
    c.deref-out-items.ensures.value within c.out-item.is c.loop-out.invariant (sym c.in_ok-is_value.ensures ∙ c.if-not-branch.true)

pub loop-out-preserved : goal.loop-out-preserved
loop-out-preserved c =
    let items = c.deref-out-items.result.now in
    let i = c.loop-out.out-index in
    let within : i < length items = omega arith in
    all_pass (λ o. is_value (scope_view c.args.scope.now) o.value) out_view items i c.out-item.result within c.out-item.is c.loop-out.invariant (sym c.in_ok-is_value.ensures ∙ c.if-not-branch.false)
