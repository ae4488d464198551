use Rattle.std.proofs.Common.{◌≡◌, drop, map, nat_le}
use Rattle.hq_sql_tree.specs.Tree.{pairs_of, orders_of}
use Rattle.hq_sql_tree.specs.View.{pair_view, order_view}
use Rattle.hq_sql_tree.specs.Form.{pairs_depth, orders_depth}
use Rattle.hq_sql_tree.proofs.depth.+expr_within.Given as goal

-- those that are left tell what all do
abbrev pub invariant-pairs_within-loop-pair : goal.invariant-pairs_within-loop-pair
invariant-pairs_within-loop-pair l = nat_le (pairs_depth (pairs_of (map pair_view (drop l.pair-index l.pair-items)))) l.room ≡ nat_le (pairs_depth (pairs_of (map pair_view l.pair-items))) l.room

-- those that are left tell what all do
abbrev pub invariant-orders_within-loop-order : goal.invariant-orders_within-loop-order
invariant-orders_within-loop-order l =
    nat_le (orders_depth (orders_of (map order_view (drop l.order-index l.order-items)))) l.room
    ≡ nat_le (orders_depth (orders_of (map order_view l.order-items))) l.room
