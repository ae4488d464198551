use Rattle.std.proofs.Common.{◌≡◌, drop, map, nat_le}
use Rattle.hq_sql_tree.specs.View.{order_view}
use Rattle.hq_sql_tree.specs.Form.{greatest, expr_depth}
use Rattle.hq_sql_tree.proofs.depth.keys_within.Given as goal

-- those that are left tell what all do
abbrev pub invariant-loop-key : goal.invariant-loop-key
invariant-loop-key l =
    nat_le (greatest (map (λ k. expr_depth k.value) (map order_view (drop l.key-index l.key-items)))) l.room
    ≡ nat_le (greatest (map (λ k. expr_depth k.value) (map order_view l.key-items))) l.room
