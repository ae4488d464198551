use Rattle.std.proofs.Common.{◌≡◌, drop, map}
use Rattle.hq_sql_tree.specs.Tree.{joins_of, preds_of}
use Rattle.hq_sql_tree.specs.View.{join_view, pred_view}
use Rattle.hq_sql_tree.specs.Form.{joins_fit, preds_fit}
use Rattle.hq_sql_tree.proofs.+fits_select.Given as goal

-- the joins that are left fit exactly where all do
abbrev pub invariant-representable::joins_fit-loop-join : goal.invariant-representable::joins_fit-loop-join
invariant-representable::joins_fit-loop-join l = joins_fit (joins_of (map join_view (drop l.join-index l.join-items))) ≡ joins_fit (joins_of (map join_view l.join-items))

abbrev pub invariant-representable::preds_fit-loop-pred : goal.invariant-representable::preds_fit-loop-pred
invariant-representable::preds_fit-loop-pred l = preds_fit (preds_of (map pred_view (drop l.pred-index l.pred-items))) ≡ preds_fit (preds_of (map pred_view l.pred-items))
