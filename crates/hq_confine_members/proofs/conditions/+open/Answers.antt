use Rattle.std.proofs.Common.{◌∙◌, ap, List, ◌+◌, ◌<◌, ◌++◌, map, drop, length, sym, arith}
use Rattle.std.proofs.lemmas.List.{append-nil, at_drop_all}
use Rattle.hq_sql_tree.specs.declared.select.Pred.{Pred}
use Rattle.hq_sql_tree.specs.Tree.{preds_of}
use Rattle.hq_sql_tree.specs.View.{pred_view}
use Rattle.hq_sql_tree.proofs.Next.{next_pred}
use Rattle.hq_base.proofs.Loops.{piece_more}
use Rattle.hq_confine_rules.specs.Conjuncts.{opened, all_opened}
use Rattle.hq_confine_members.specs.Views.{preds_view}
use Rattle.hq_confine_members.proofs.conditions.+open.Goals as goal

pub open_all-loop-pred-preserved : goal.open_all-loop-pred-preserved
open_all-loop-pred-preserved t c =
    let items = c.deref-pred-items.result.now in
    let i = c.loop-pred.pred-index in
    let item = c.pred-item.result in
    let within : i < length items = omega arith in
    piece_more (preds_view c.loop-pred.found.items) (preds_view c.open.new.found.items) (opened (pred_view item)) (all_opened (preds_of (map pred_view (drop (i + 1) items))))
    (all_opened (preds_of (map pred_view (drop i items)))) _
    c.in_ok-open.ensures (ap all_opened (next_pred items i item within c.pred-item.is)) c.loop-pred.invariant

pub open_all-returns : goal.open_all-returns
open_all-returns t c =
    let items = c.deref-pred-items.result.now in
    let found = preds_view c.loop-pred.found.items in
    let stand = λ (list : List Pred). all_opened (preds_of (map pred_view list)) in
    sym (append-nil found) ∙ sym (at_drop_all (λ list. found ++ stand list) items c.loop-pred.pred-index c.loop-pred-test.false) ∙ c.loop-pred.invariant
    ∙ ap (λ list. preds_view c.args.found.now.items ++ stand list) c.deref-pred-items.ensures.value
