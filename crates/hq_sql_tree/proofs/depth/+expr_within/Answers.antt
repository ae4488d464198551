use Rattle.std.proofs.Common.{◌∙◌, sym, ap, List, ◌+◌, ◌<◌, map, drop, length, nat_le, arith}
use Rattle.hq_sql_tree.specs.declared.expr.ExprPair.{ExprPair}
use Rattle.hq_sql_tree.specs.declared.expr.Order.{Order}
use Rattle.hq_sql_tree.specs.Tree.{pairs_of, orders_of}
use Rattle.hq_sql_tree.specs.View.{expr_view, pair_view, order_view}
use Rattle.hq_sql_tree.specs.Form.{expr_depth, pairs_depth, orders_depth}
use Rattle.hq_sql_tree.proofs.Next.{next_pair, next_order, passes, fails, max_within}
use Rattle.hq_sql_tree.proofs.depth.+expr_within.Goals as goal

pub pairs_within-loop-pair-preserved : goal.pairs_within-loop-pair-preserved
pairs_within-loop-pair-preserved t c =
    let items = c.deref-pair-items.result.now in
    let i = c.loop-pair.pair-index in
    let item = c.pair-item.result in
    let within : i < length items = omega arith in
    let room = c.args.room in
    let deep = λ (list : List ExprPair). pairs_depth (pairs_of (map pair_view list)) in
    let whole = λ (list : List ExprPair). nat_le (deep list) room in
    passes (nat_le (expr_depth (expr_view item.value)) room) (whole (drop (i + 1) items)) (whole (drop i items)) (whole items)
    (ap (λ list. nat_le (pairs_depth list) room) (next_pair items i item within c.pair-item.is)
    ∙ max_within (expr_depth (expr_view item.value)) (deep (drop (i + 1) items)) room)
    c.loop-pair.invariant
    (sym c.expr_within.ensures ∙ c.if-not-expr_within.false)

pub pairs_within-returns-then-not-expr_within : goal.pairs_within-returns-then-not-expr_within
pairs_within-returns-then-not-expr_within t c =
    let items = c.deref-pair-items.result.now in
    let i = c.loop-pair.pair-index in
    let item = c.pair-item.result in
    let within : i < length items = omega arith in
    let room = c.args.room in
    let deep = λ (list : List ExprPair). pairs_depth (pairs_of (map pair_view list)) in
    let whole = λ (list : List ExprPair). nat_le (deep list) room in
    fails (nat_le (expr_depth (expr_view item.value)) room) (whole (drop (i + 1) items)) (whole (drop i items)) (whole items)
    (ap (λ list. nat_le (pairs_depth list) room) (next_pair items i item within c.pair-item.is)
    ∙ max_within (expr_depth (expr_view item.value)) (deep (drop (i + 1) items)) room)
    c.loop-pair.invariant
    (sym c.expr_within.ensures ∙ c.if-not-expr_within.true)
    ∙ ap whole c.deref-pair-items.ensures.value

pub orders_within-loop-order-preserved : goal.orders_within-loop-order-preserved
orders_within-loop-order-preserved t c =
    let items = c.deref-order-items.result.now in
    let i = c.loop-order.order-index in
    let item = c.order-item.result in
    let within : i < length items = omega arith in
    let room = c.args.room in
    let deep = λ (list : List Order). orders_depth (orders_of (map order_view list)) in
    let whole = λ (list : List Order). nat_le (deep list) room in
    passes (nat_le (expr_depth (expr_view item.value)) room) (whole (drop (i + 1) items)) (whole (drop i items)) (whole items)
    (ap (λ list. nat_le (orders_depth list) room) (next_order items i item within c.order-item.is)
    ∙ max_within (expr_depth (expr_view item.value)) (deep (drop (i + 1) items)) room)
    c.loop-order.invariant
    (sym c.expr_within.ensures ∙ c.if-not-expr_within.false)

pub orders_within-returns-then-not-expr_within : goal.orders_within-returns-then-not-expr_within
orders_within-returns-then-not-expr_within t c =
    let items = c.deref-order-items.result.now in
    let i = c.loop-order.order-index in
    let item = c.order-item.result in
    let within : i < length items = omega arith in
    let room = c.args.room in
    let deep = λ (list : List Order). orders_depth (orders_of (map order_view list)) in
    let whole = λ (list : List Order). nat_le (deep list) room in
    fails (nat_le (expr_depth (expr_view item.value)) room) (whole (drop (i + 1) items)) (whole (drop i items)) (whole items)
    (ap (λ list. nat_le (orders_depth list) room) (next_order items i item within c.order-item.is)
    ∙ max_within (expr_depth (expr_view item.value)) (deep (drop (i + 1) items)) room)
    c.loop-order.invariant
    (sym c.expr_within.ensures ∙ c.if-not-expr_within.true)
    ∙ ap whole c.deref-order-items.ensures.value
