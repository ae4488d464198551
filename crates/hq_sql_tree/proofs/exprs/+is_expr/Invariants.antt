use Rattle.std.proofs.Common.{◌≡◌, drop, map}
use Rattle.hq_sql_tree.specs.Tree.{pairs_of, orders_of}
use Rattle.hq_sql_tree.specs.View.{pair_view, order_view}
use Rattle.hq_sql_tree.specs.Form.{are_pairs, are_orders}
use Rattle.hq_sql_tree.proofs.exprs.+is_expr.Given as goal

-- those that are left tell what all do
abbrev pub invariant-are_pairs-loop-pair : goal.invariant-are_pairs-loop-pair
invariant-are_pairs-loop-pair l = are_pairs (pairs_of (map pair_view (drop l.pair-index l.pair-items))) ≡ are_pairs (pairs_of (map pair_view l.pair-items))

-- those that are left tell what all do
abbrev pub invariant-are_orders-loop-order : goal.invariant-are_orders-loop-order
invariant-are_orders-loop-order l = are_orders (orders_of (map order_view (drop l.order-index l.order-items))) ≡ are_orders (orders_of (map order_view l.order-items))
