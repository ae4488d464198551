use Rattle.std.proofs.Common.{◌∙◌, sym, ◌<◌, length, arith}
use Rattle.hq_sql_tree.specs.View.{expr_view}
use Rattle.hq_sql_tree.specs.Form.{is_expr}
use Rattle.hq_sql_tree.proofs.Next.{all_pass, all_fail}
use Rattle.hq_sql_tree.proofs.exprs.are_exprs.Goals as goal

pub loop-expr-preserved : goal.loop-expr-preserved
loop-expr-preserved c =
    let items = c.deref-expr-items.result.now in
    let i = c.loop-expr.expr-index in
    let within : i < length items = omega arith in
    all_pass is_expr expr_view items i c.expr-item.result within c.expr-item.is c.loop-expr.invariant (sym c.is_expr.ensures ∙ c.if-not-is_expr.false)

pub returns-then-not-is_expr : goal.returns-then-not-is_expr
returns-then-not-is_expr c =
    let items = c.deref-expr-items.result.now in
    let i = c.loop-expr.expr-index in
    let within : i < length items = omega arith in
    all_fail is_expr expr_view items c.args.exprs.now.items i c.expr-item.result c.deref-expr-items.ensures.value within c.expr-item.is
    c.loop-expr.invariant (sym c.is_expr.ensures ∙ c.if-not-is_expr.true)
