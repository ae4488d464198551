use Rattle.std.proofs.Common.{◌∙◌, sym, ap, List, ◌+◌, ◌<◌, map, drop, length, arith}
use Rattle.hq_sql_tree.specs.declared.select.Join.{Join}
use Rattle.hq_sql_tree.specs.declared.select.Pred.{Pred}
use Rattle.hq_sql_tree.specs.Tree.{joins_of, preds_of}
use Rattle.hq_sql_tree.specs.View.{select_view, join_view, pred_view}
use Rattle.hq_sql_tree.specs.Form.{is_select, are_joins, is_pred, are_preds}
use Rattle.hq_sql_tree.proofs.Next.{next_join, next_pred, passes, fails}
use Rattle.hq_sql_tree.proofs.grammar.+is_select.Goals as goal

pub are_joins-loop-join-preserved : goal.are_joins-loop-join-preserved
are_joins-loop-join-preserved t c =
    let items = c.deref-join-items.result.now in
    let i = c.loop-join.join-index in
    let item = c.join-item.result in
    let within : i < length items = omega arith in
    let whole = λ (list : List Join). are_joins (joins_of (map join_view list)) in
    passes (is_select (select_view item.select.value)) (whole (drop (i + 1) items)) (whole (drop i items)) (whole items)
    (ap are_joins (next_join items i item within c.join-item.is)) c.loop-join.invariant
    (sym (c.is_select.ensures ∙ ap (λ s. is_select (select_view s)) c.deref.ensures) ∙ c.if-not-is_select.false)

pub are_joins-returns-then-not-is_select : goal.are_joins-returns-then-not-is_select
are_joins-returns-then-not-is_select t c =
    let items = c.deref-join-items.result.now in
    let i = c.loop-join.join-index in
    let item = c.join-item.result in
    let within : i < length items = omega arith in
    let whole = λ (list : List Join). are_joins (joins_of (map join_view list)) in
    fails (is_select (select_view item.select.value)) (whole (drop (i + 1) items)) (whole (drop i items)) (whole items)
    (ap are_joins (next_join items i item within c.join-item.is)) c.loop-join.invariant
    (sym (c.is_select.ensures ∙ ap (λ s. is_select (select_view s)) c.deref.ensures) ∙ c.if-not-is_select.true)
    ∙ ap whole c.deref-join-items.ensures.value

pub are_preds-loop-pred-preserved : goal.are_preds-loop-pred-preserved
are_preds-loop-pred-preserved t c =
    let items = c.deref-pred-items.result.now in
    let i = c.loop-pred.pred-index in
    let item = c.pred-item.result in
    let within : i < length items = omega arith in
    let whole = λ (list : List Pred). are_preds (preds_of (map pred_view list)) in
    passes (is_pred (pred_view item)) (whole (drop (i + 1) items)) (whole (drop i items)) (whole items) (ap are_preds (next_pred items i item within c.pred-item.is)) c.loop-pred.invariant
    (sym c.is_pred.ensures ∙ c.if-not-is_pred.false)

pub are_preds-returns-then-not-is_pred : goal.are_preds-returns-then-not-is_pred
are_preds-returns-then-not-is_pred t c =
    let items = c.deref-pred-items.result.now in
    let i = c.loop-pred.pred-index in
    let item = c.pred-item.result in
    let within : i < length items = omega arith in
    let whole = λ (list : List Pred). are_preds (preds_of (map pred_view list)) in
    fails (is_pred (pred_view item)) (whole (drop (i + 1) items)) (whole (drop i items)) (whole items) (ap are_preds (next_pred items i item within c.pred-item.is)) c.loop-pred.invariant
    (sym c.is_pred.ensures ∙ c.if-not-is_pred.true)
    ∙ ap whole c.deref-pred-items.ensures.value
