use Rattle.std.proofs.Common.{◌∙◌, sym, ap, List, ◌+◌, ◌<◌, map, drop, length, nat_le, arith}
use Rattle.hq_sql_tree.specs.declared.select.Pred.{Pred}
use Rattle.hq_sql_tree.specs.Tree.{preds_of}
use Rattle.hq_sql_tree.specs.View.{pred_view}
use Rattle.hq_sql_tree.specs.Form.{pred_depth, preds_depth}
use Rattle.hq_sql_tree.proofs.Next.{next_pred, passes, fails, max_within}
use Rattle.hq_sql_tree.proofs.depth.+select_within.Goals as goal

pub preds_within-loop-pred-preserved : goal.preds_within-loop-pred-preserved
preds_within-loop-pred-preserved t c =
    let items = c.deref-pred-items.result.now in
    let i = c.loop-pred.pred-index in
    let item = c.pred-item.result in
    let within : i < length items = omega arith in
    let room = c.args.room in
    let deep = λ (list : List Pred). preds_depth (preds_of (map pred_view list)) in
    let whole = λ (list : List Pred). nat_le (deep list) room in
    passes (nat_le (pred_depth (pred_view item)) room) (whole (drop (i + 1) items)) (whole (drop i items)) (whole items)
    (ap (λ list. nat_le (preds_depth list) room) (next_pred items i item within c.pred-item.is)
    ∙ max_within (pred_depth (pred_view item)) (deep (drop (i + 1) items)) room)
    c.loop-pred.invariant
    (sym c.pred_within.ensures ∙ c.if-not-pred_within.false)

pub preds_within-returns-then-not-pred_within : goal.preds_within-returns-then-not-pred_within
preds_within-returns-then-not-pred_within t c =
    let items = c.deref-pred-items.result.now in
    let i = c.loop-pred.pred-index in
    let item = c.pred-item.result in
    let within : i < length items = omega arith in
    let room = c.args.room in
    let deep = λ (list : List Pred). preds_depth (preds_of (map pred_view list)) in
    let whole = λ (list : List Pred). nat_le (deep list) room in
    fails (nat_le (pred_depth (pred_view item)) room) (whole (drop (i + 1) items)) (whole (drop i items)) (whole items)
    (ap (λ list. nat_le (preds_depth list) room) (next_pred items i item within c.pred-item.is)
    ∙ max_within (pred_depth (pred_view item)) (deep (drop (i + 1) items)) room)
    c.loop-pred.invariant
    (sym c.pred_within.ensures ∙ c.if-not-pred_within.true)
    ∙ ap whole c.deref-pred-items.ensures.value
