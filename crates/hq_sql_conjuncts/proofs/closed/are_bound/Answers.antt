use Rattle.std.proofs.Common.{◌∙◌, sym, ap, List, ◌+◌, ◌<◌, map, drop, length, arith}
use Rattle.hq_sql_tree.specs.declared.expr.Expr.{Expr}
use Rattle.hq_sql_tree.specs.View.{expr_view}
use Rattle.hq_sql_tree.proofs.Next.{next_item, passes, fails}
use Rattle.hq_sql_conjuncts.specs.Closed.{is_bound, are_bound}
use Rattle.hq_sql_conjuncts.specs.Named.{names_view}
use Rattle.hq_sql_conjuncts.proofs.closed.are_bound.Goals as goal

pub loop-expr-preserved : goal.loop-expr-preserved
loop-expr-preserved c =
    let names = names_view c.args.names.now in
    let items = c.deref-expr-items.result.now in
    let i = c.loop-expr.expr-index in
    let item = c.expr-item.result in
    let within : i < length items = omega arith in
    let whole = λ (list : List Expr). are_bound names (map expr_view list) in
    passes (is_bound names (expr_view item)) (whole (drop (i + 1) items)) (whole (drop i items)) (whole items) (ap whole (next_item items i item within c.expr-item.is)) c.loop-expr.invariant
    (sym c.is_bound.ensures ∙ c.if-not-is_bound.false)

pub returns-then-not-is_bound : goal.returns-then-not-is_bound
returns-then-not-is_bound c =
    let names = names_view c.args.names.now in
    let items = c.deref-expr-items.result.now in
    let i = c.loop-expr.expr-index in
    let item = c.expr-item.result in
    let within : i < length items = omega arith in
    let whole = λ (list : List Expr). are_bound names (map expr_view list) in
    fails (is_bound names (expr_view item)) (whole (drop (i + 1) items)) (whole (drop i items)) (whole items) (ap whole (next_item items i item within c.expr-item.is)) c.loop-expr.invariant
    (sym c.is_bound.ensures ∙ c.if-not-is_bound.true)
    ∙ ap whole c.deref-expr-items.ensures.value
