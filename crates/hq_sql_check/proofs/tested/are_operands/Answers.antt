use Rattle.std.proofs.Common.{◌∙◌, sym, ◌<◌, length, arith}
use Rattle.hq_sql_tree.specs.View.{expr_view}
use Rattle.hq_sql_tree.specs.WellFormed.{is_operand}
use Rattle.hq_sql_check.specs.Scopes.{scope_view}
use Rattle.hq_sql_tree.proofs.Next.{all_pass, all_fail}
use Rattle.hq_sql_check.proofs.tested.are_operands.Goals as goal

pub returns-then-not-branch : goal.returns-then-not-branch
returns-then-not-branch c =
    let items = c.deref-operand-items.result.now in
    let i = c.loop-operand.operand-index in
    let within : i < length items = omega arith in
    let taken = is_operand (scope_view c.args.scope.now) c.args.test (expr_view c.args.value.now) in
    all_fail taken expr_view items c.args.operands.now.items i c.operand-item.result c.deref-operand-items.ensures.value within c.operand-item.is c.loop-operand.invariant
    (sym c.in_ok-is_operand.ensures ∙ c.if-not-branch.true)

pub loop-operand-preserved : goal.loop-operand-preserved
loop-operand-preserved c =
    let items = c.deref-operand-items.result.now in
    let i = c.loop-operand.operand-index in
    let within : i < length items = omega arith in
    let taken = is_operand (scope_view c.args.scope.now) c.args.test (expr_view c.args.value.now) in
    all_pass taken expr_view items i c.operand-item.result within c.operand-item.is c.loop-operand.invariant (sym c.in_ok-is_operand.ensures ∙ c.if-not-branch.false)
