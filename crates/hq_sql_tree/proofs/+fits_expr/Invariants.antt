use Rattle.std.proofs.Common.{◌≡◌, drop, map}
use Rattle.hq_sql_tree.specs.Tree.{pairs_of, orders_of}
use Rattle.hq_sql_tree.specs.View.{pair_view, order_view}
use Rattle.hq_sql_tree.specs.Form.{pairs_fit, orders_fit}
use Rattle.hq_sql_tree.proofs.+fits_expr.Given as goal

-- the pairs that are left fit exactly where all do
abbrev pub invariant-representable::pairs_fit-loop-pair : goal.invariant-representable::pairs_fit-loop-pair
invariant-representable::pairs_fit-loop-pair l = pairs_fit (pairs_of (map pair_view (drop l.pair-index l.pair-items))) ≡ pairs_fit (pairs_of (map pair_view l.pair-items))

abbrev pub invariant-representable::aggregate_orders_fit-loop-order : goal.invariant-representable::aggregate_orders_fit-loop-order
invariant-representable::aggregate_orders_fit-loop-order l = orders_fit (orders_of (map order_view (drop l.order-index l.order-items))) ≡ orders_fit (orders_of (map order_view l.order-items))
