use Rattle.std.proofs.Common.{◌≡◌, drop, map, nat_le}
use Rattle.hq_sql_tree.specs.Tree.{joins_of, preds_of}
use Rattle.hq_sql_tree.specs.View.{join_view, pred_view}
use Rattle.hq_sql_tree.specs.Form.{joins_depth, preds_depth}
use Rattle.hq_sql_tree.proofs.depth.+select_within.Given as goal

-- those that are left tell what all do
abbrev pub invariant-joins_within-loop-join : goal.invariant-joins_within-loop-join
invariant-joins_within-loop-join l = nat_le (joins_depth (joins_of (map join_view (drop l.join-index l.join-items)))) l.room ≡ nat_le (joins_depth (joins_of (map join_view l.join-items))) l.room

-- those that are left tell what all do
abbrev pub invariant-preds_within-loop-pred : goal.invariant-preds_within-loop-pred
invariant-preds_within-loop-pred l = nat_le (preds_depth (preds_of (map pred_view (drop l.pred-index l.pred-items)))) l.room ≡ nat_le (preds_depth (preds_of (map pred_view l.pred-items))) l.room
