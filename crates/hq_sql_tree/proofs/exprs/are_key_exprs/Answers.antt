use Rattle.std.proofs.Common.{◌∙◌, sym, ap, ◌<◌, length, arith}
use Rattle.hq_sql_tree.specs.View.{order_view}
use Rattle.hq_sql_tree.specs.Form.{is_expr}
use Rattle.hq_sql_tree.proofs.Next.{all_pass, all_fail, view_key}
use Rattle.hq_sql_tree.proofs.exprs.are_key_exprs.Goals as goal

pub loop-key-preserved : goal.loop-key-preserved
loop-key-preserved c =
    let items = c.deref-key-items.result.now in
    let i = c.loop-key.key-index in
    let within : i < length items = omega arith in
    all_pass (λ k. is_expr k.value) order_view items i c.key-item.result within c.key-item.is c.loop-key.invariant
    (ap is_expr (view_key c.key-item.result) ∙ sym c.is_expr.ensures ∙ c.if-not-is_expr.false)

pub returns-then-not-is_expr : goal.returns-then-not-is_expr
returns-then-not-is_expr c =
    let items = c.deref-key-items.result.now in
    let i = c.loop-key.key-index in
    let within : i < length items = omega arith in
    all_fail (λ k. is_expr k.value) order_view items c.args.keys.now.items i c.key-item.result c.deref-key-items.ensures.value within
    c.key-item.is c.loop-key.invariant (ap is_expr (view_key c.key-item.result) ∙ sym c.is_expr.ensures ∙ c.if-not-is_expr.true)
