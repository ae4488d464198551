use Rattle.std.proofs.Common.{◌≡◌, drop, map}
use Rattle.hq_sql_tree.specs.Tree.{joins_of, preds_of}
use Rattle.hq_sql_tree.specs.View.{join_view, pred_view}
use Rattle.hq_sql_tree.specs.Form.{are_joins, are_preds}
use Rattle.hq_sql_tree.proofs.grammar.+is_select.Given as goal

-- those that are left tell what all do
abbrev pub invariant-are_joins-loop-join : goal.invariant-are_joins-loop-join
invariant-are_joins-loop-join l = are_joins (joins_of (map join_view (drop l.join-index l.join-items))) ≡ are_joins (joins_of (map join_view l.join-items))

-- those that are left tell what all do
abbrev pub invariant-are_preds-loop-pred : goal.invariant-are_preds-loop-pred
invariant-are_preds-loop-pred l = are_preds (preds_of (map pred_view (drop l.pred-index l.pred-items))) ≡ are_preds (preds_of (map pred_view l.pred-items))
