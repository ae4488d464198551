use Rattle.std.proofs.Common.{◌∙◌, sym, ◌<◌, length, arith}
use Rattle.hq_sql_tree.specs.View.{expr_view}
use Rattle.hq_sql_tree.specs.WellFormed.{is_compared}
use Rattle.hq_sql_check.specs.Scopes.{scope_view}
use Rattle.hq_sql_tree.proofs.Next.{all_pass, all_fail}
use Rattle.hq_sql_check.proofs.parts.are_compared.Goals as goal

pub returns-then-not-branch : goal.returns-then-not-branch
returns-then-not-branch c =
    let items = c.deref-expr-items.result.now in
    let i = c.loop-expr.expr-index in
    let within : i < length items = omega arith in
    all_fail (is_compared (scope_view c.args.scope.now)) expr_view items c.args.exprs.now.items i c.expr-item.result
    c.deref-expr-items.ensures.value within c.expr-item.is c.loop-expr.invariant (sym c.in_ok-is_compared.ensures ∙ c.if-not-branch.true)

pub loop-expr-preserved : goal.loop-expr-preserved
loop-expr-preserved c =
    let items = c.deref-expr-items.result.now in
    let i = c.loop-expr.expr-index in
    let within : i < length items = omega arith in
    all_pass (is_compared (scope_view c.args.scope.now)) expr_view items i c.expr-item.result within c.expr-item.is c.loop-expr.invariant (sym c.in_ok-is_compared.ensures ∙ c.if-not-branch.false)
