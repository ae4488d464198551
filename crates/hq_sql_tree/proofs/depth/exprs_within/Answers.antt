use Rattle.std.proofs.Common.{◌∙◌, sym, ap, List, ◌+◌, ◌<◌, map, drop, length, nat_le, arith}
use Rattle.hq_sql_tree.specs.declared.expr.Expr.{Expr}
use Rattle.hq_sql_tree.specs.View.{expr_view}
use Rattle.hq_sql_tree.specs.Form.{greatest, expr_depth}
use Rattle.hq_sql_tree.proofs.Next.{next_item, passes, fails, max_within}
use Rattle.hq_sql_tree.proofs.depth.exprs_within.Goals as goal

pub loop-expr-preserved : goal.loop-expr-preserved
loop-expr-preserved c =
    let items = c.deref-expr-items.result.now in
    let i = c.loop-expr.expr-index in
    let item = c.expr-item.result in
    let within : i < length items = omega arith in
    let room = c.args.room in
    let deep = λ (list : List Expr). greatest (map expr_depth (map expr_view list)) in
    let whole = λ (list : List Expr). nat_le (deep list) room in
    passes (nat_le (expr_depth (expr_view item)) room) (whole (drop (i + 1) items)) (whole (drop i items)) (whole items)
    (ap whole (next_item items i item within c.expr-item.is) ∙ max_within (expr_depth (expr_view item)) (deep (drop (i + 1) items)) room)
    c.loop-expr.invariant
    (sym c.expr_within.ensures ∙ c.if-not-expr_within.false)

pub returns-then-not-expr_within : goal.returns-then-not-expr_within
returns-then-not-expr_within c =
    let items = c.deref-expr-items.result.now in
    let i = c.loop-expr.expr-index in
    let item = c.expr-item.result in
    let within : i < length items = omega arith in
    let room = c.args.room in
    let deep = λ (list : List Expr). greatest (map expr_depth (map expr_view list)) in
    let whole = λ (list : List Expr). nat_le (deep list) room in
    fails (nat_le (expr_depth (expr_view item)) room) (whole (drop (i + 1) items)) (whole (drop i items)) (whole items)
    (ap whole (next_item items i item within c.expr-item.is) ∙ max_within (expr_depth (expr_view item)) (deep (drop (i + 1) items)) room)
    c.loop-expr.invariant
    (sym c.expr_within.ensures ∙ c.if-not-expr_within.true)
    ∙ ap whole c.deref-expr-items.ensures.value
