use Rattle.std.proofs.Common.{◌∙◌, sym, ◌<◌, length, arith}
use Rattle.hq_sql_tree.specs.View.{out_view}
use Rattle.hq_sql_tree.specs.Form.{is_expr}
use Rattle.hq_sql_tree.proofs.Next.{all_pass, all_fail}
use Rattle.hq_sql_tree.proofs.exprs.are_out_exprs.Goals as goal

pub loop-out-preserved : goal.loop-out-preserved
loop-out-preserved c =
    let items = c.deref-out-items.result.now in
    let i = c.loop-out.out-index in
    let within : i < length items = omega arith in
    all_pass (λ o. is_expr o.value) out_view items i c.out-item.result within c.out-item.is c.loop-out.invariant (sym c.is_expr.ensures ∙ c.if-not-is_expr.false)

pub returns-then-not-is_expr : goal.returns-then-not-is_expr
returns-then-not-is_expr c =
    let items = c.deref-out-items.result.now in
    let i = c.loop-out.out-index in
    let within : i < length items = omega arith in
    all_fail (λ o. is_expr o.value) out_view items c.args.outs.now.items i c.out-item.result c.deref-out-items.ensures.value within
    c.out-item.is c.loop-out.invariant (sym c.is_expr.ensures ∙ c.if-not-is_expr.true)
