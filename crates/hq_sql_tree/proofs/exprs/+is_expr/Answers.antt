use Rattle.std.proofs.Common.{◌≡◌, ◌∙◌, sym, ap, List, ◌+◌, ◌<◌, map, drop, length, ◌==◌, true, false, ◌&&◌, arith, rules}
use Rattle.hq_sql_tree.specs.declared.expr.ExprPair.{ExprPair}
use Rattle.hq_sql_tree.specs.declared.expr.Order.{Order}
use Rattle.hq_sql_tree.specs.Tree as tree
use Rattle.hq_sql_tree.specs.Tree.{pairs_of, orders_of}
use Rattle.hq_sql_tree.specs.View.{agg_view, expr_view, pair_view, order_view}
use Rattle.hq_sql_tree.specs.Form.{is_expr, are_pairs, is_agg, are_orders}
use Rattle.hq_sql_tree.proofs.Listed.{some_keys}
use Rattle.hq_sql_tree.proofs.Next.{next_pair, next_order, passes, fails}
use Rattle.hq_sql_tree.proofs.Views.{view_json_agg}
use Rattle.hq_sql_tree.proofs.exprs.+is_expr.Goals as goal

pub is_agg-returns-then-is_expr : goal.is_agg-returns-then-is_expr
is_agg-returns-then-is_expr t c =
    let value = expr_view c.in-JsonAgg.value.value in
    let keys = orders_of (map order_view c.in-JsonAgg.order.items) in
    let seen : agg_view c.args.agg.now ≡ tree.json_agg value keys = ap agg_view c.in-JsonAgg.is ∙ view_json_agg c.in-JsonAgg.value c.in-JsonAgg.order in
    let some : (length c.in-JsonAgg.order.items == 0) ≡ false = search rules in
    let first : is_expr value ≡ true = search rules in
    let all : c.are_orders.result ≡ are_orders keys = search rules in
    all ∙ sym (ap is_agg seen ∙ (some_keys value c.in-JsonAgg.order.items some ∙ ap (λ b. b && are_orders keys) first))

pub are_pairs-loop-pair-preserved : goal.are_pairs-loop-pair-preserved
are_pairs-loop-pair-preserved t c =
    let items = c.deref-pair-items.result.now in
    let i = c.loop-pair.pair-index in
    let item = c.pair-item.result in
    let within : i < length items = omega arith in
    let whole = λ (list : List ExprPair). are_pairs (pairs_of (map pair_view list)) in
    passes (is_expr (expr_view item.value)) (whole (drop (i + 1) items)) (whole (drop i items)) (whole items) (ap are_pairs (next_pair items i item within c.pair-item.is)) c.loop-pair.invariant
    (sym c.is_expr.ensures ∙ c.if-not-is_expr.false)

pub are_pairs-returns-then-not-is_expr : goal.are_pairs-returns-then-not-is_expr
are_pairs-returns-then-not-is_expr t c =
    let items = c.deref-pair-items.result.now in
    let i = c.loop-pair.pair-index in
    let item = c.pair-item.result in
    let within : i < length items = omega arith in
    let whole = λ (list : List ExprPair). are_pairs (pairs_of (map pair_view list)) in
    fails (is_expr (expr_view item.value)) (whole (drop (i + 1) items)) (whole (drop i items)) (whole items) (ap are_pairs (next_pair items i item within c.pair-item.is)) c.loop-pair.invariant
    (sym c.is_expr.ensures ∙ c.if-not-is_expr.true)
    ∙ ap whole c.deref-pair-items.ensures.value

pub are_orders-loop-order-preserved : goal.are_orders-loop-order-preserved
are_orders-loop-order-preserved t c =
    let items = c.deref-order-items.result.now in
    let i = c.loop-order.order-index in
    let item = c.order-item.result in
    let within : i < length items = omega arith in
    let whole = λ (list : List Order). are_orders (orders_of (map order_view list)) in
    passes (is_expr (expr_view item.value)) (whole (drop (i + 1) items)) (whole (drop i items)) (whole items) (ap are_orders (next_order items i item within c.order-item.is)) c.loop-order.invariant
    (sym c.is_expr.ensures ∙ c.if-not-is_expr.false)

pub are_orders-returns-then-not-is_expr : goal.are_orders-returns-then-not-is_expr
are_orders-returns-then-not-is_expr t c =
    let items = c.deref-order-items.result.now in
    let i = c.loop-order.order-index in
    let item = c.order-item.result in
    let within : i < length items = omega arith in
    let whole = λ (list : List Order). are_orders (orders_of (map order_view list)) in
    fails (is_expr (expr_view item.value)) (whole (drop (i + 1) items)) (whole (drop i items)) (whole items) (ap are_orders (next_order items i item within c.order-item.is)) c.loop-order.invariant
    (sym c.is_expr.ensures ∙ c.if-not-is_expr.true)
    ∙ ap whole c.deref-order-items.ensures.value
