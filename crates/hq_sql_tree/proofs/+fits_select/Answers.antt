use Rattle.std.proofs.Common.{ap, ◌+◌, ◌<◌, map, drop, length, arith}
use Rattle.hq_sql_tree.specs.Tree.{preds_of}
use Rattle.hq_sql_tree.specs.View.{pred_view}
use Rattle.hq_sql_tree.specs.Form.{pred_fits, preds_fit}
use Rattle.hq_sql_tree.proofs.Next.{next_pred, passes}
use Rattle.hq_sql_tree.proofs.+fits_select.Goals as goal

pub representable::preds_fit-loop-pred-preserved : goal.representable::preds_fit-loop-pred-preserved
representable::preds_fit-loop-pred-preserved t c =
    let items = c.deref-pred-items.result.now in
    let i = c.loop-pred.pred-index in
    let item = c.pred-item.result in
    let within : i < length items = omega arith in
    passes (pred_fits (pred_view item)) (preds_fit (preds_of (map pred_view (drop (i + 1) items)))) (preds_fit (preds_of (map pred_view (drop i items)))) (preds_fit (preds_of (map pred_view items)))
    (ap preds_fit (next_pred items i item within c.pred-item.is)) c.loop-pred.invariant c.fits.ensures
