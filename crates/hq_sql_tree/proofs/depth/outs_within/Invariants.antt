use Rattle.std.proofs.Common.{◌≡◌, drop, map, nat_le}
use Rattle.hq_sql_tree.specs.View.{out_view}
use Rattle.hq_sql_tree.specs.Form.{greatest, expr_depth}
use Rattle.hq_sql_tree.proofs.depth.outs_within.Given as goal

-- those that are left tell what all do
abbrev pub invariant-loop-out : goal.invariant-loop-out
invariant-loop-out l =
    nat_le (greatest (map (λ o. expr_depth o.value) (map out_view (drop l.out-index l.out-items)))) l.room
    ≡ nat_le (greatest (map (λ o. expr_depth o.value) (map out_view l.out-items))) l.room
