use Rattle.std.proofs.Common.{◌∙◌, refl, sym, ap, List, ◌+◌, ◌<◌, ◌++◌, [], map, drop, length, arith}
use Rattle.std.proofs.lemmas.Result.{on_ok_weaker}
use Rattle.hq_sql_tree.specs.declared.select.Join.{Join}
use Rattle.hq_sql_tree.specs.declared.select.Pred.{Pred}
use Rattle.hq_sql_tree.specs.Tree.{joins_of, preds_of}
use Rattle.hq_sql_tree.specs.View.{select_view, from_view, join_view, pred_view, filter_view}
use Rattle.hq_sql_tree.specs.WellFormed.{aliases_in, aliases_in_joins, aliases_in_preds}
use Rattle.hq_sql_check.specs.Scopes.{texts}
use Rattle.hq_sql_check.proofs.AliasLists.{pieces, beside, beside_end, behind}
use Rattle.hq_sql_tree.proofs.Next.{next_join, next_pred}
use Rattle.hq_sql_check.proofs.Next.{piece_end}
use Rattle.hq_sql_tree.proofs.Views.{view_rows, view_fold}
use Rattle.hq_sql_check.proofs.aliases.+push_aliases.Goals as goal

pub push_aliases-returns-in_ok-push_of_joins-in-Rows : goal.push_aliases-returns-in_ok-push_of_joins-in-Rows
push_aliases-returns-in_ok-push_of_joins-in-Rows t c =
    let r = c.in-Rows in
    let seen = ap select_view c.in-Rows.is ∙ view_rows r.distinct r.outs r.from r.joins r.filter r.order r.limit r.offset in
    on_ok_weaker c.push_of_filter.result
    (λ e. pieces (texts c.args.aliases.now.items) (texts c.push_of_from.new.aliases.items) (texts c.push_of_joins.new.aliases.items)
    (texts c.push_of_filter.new.aliases.items) (from_view r.from) (joins_of (map join_view r.joins.items)) (filter_view r.filter)
    c.in_ok-push_of_from-in-Rows.ensures c.in_ok-push_of_joins-in-Rows.ensures e ∙ ap (λ s. texts c.args.aliases.now.items ++ aliases_in s []) (sym seen))
    c.push_of_filter.ensures

pub push_aliases-returns-in_ok-push_alias-in-Fold : goal.push_aliases-returns-in_ok-push_alias-in-Fold
push_aliases-returns-in_ok-push_alias-in-Fold t c =
    let f = c.in-Fold in
    let seen = ap select_view c.in-Fold.is ∙ view_fold f.out f.rows f.alias in
    on_ok_weaker c.push_aliases.result
    (λ e. beside_end (texts c.args.aliases.now.items) (texts c.push_alias.new.aliases.items) (texts c.push_aliases.new.aliases.items)
    f.alias (select_view f.rows.value) c.in_ok-push_alias-in-Fold.ensures
    (e ∙ ap (λ s. texts c.push_alias.new.aliases.items ++ aliases_in (select_view s) []) c.deref.ensures)
    ∙ ap (λ s. texts c.args.aliases.now.items ++ aliases_in s []) (sym seen))
    c.push_aliases.ensures

pub push_of_joins-loop-join-preserved : goal.push_of_joins-loop-join-preserved
push_of_joins-loop-join-preserved t c =
    let items = c.deref-join-items.result.now in
    let i = c.loop-join.join-index in
    let item = c.join-item.result in
    let within : i < length items = omega arith in
    beside (texts c.loop-join.aliases.items) (texts c.push_alias.new.aliases.items) (texts c.push_aliases.new.aliases.items)
    (aliases_in_joins (joins_of (map join_view (drop (i + 1) items))) []) item.alias (select_view item.select.value)
    c.in_ok-push_alias.ensures
    (c.in_ok-push_aliases.ensures ∙ ap (λ s. texts c.push_alias.new.aliases.items ++ aliases_in (select_view s) []) c.deref.ensures)
    ∙ (ap (λ js. texts c.loop-join.aliases.items ++ aliases_in_joins js []) (sym (next_join items i item within c.join-item.is)) ∙ c.loop-join.invariant)

pub push_of_preds-loop-pred-preserved : goal.push_of_preds-loop-pred-preserved
push_of_preds-loop-pred-preserved t c =
    let items = c.deref-pred-items.result.now in
    let i = c.loop-pred.pred-index in
    let item = c.pred-item.result in
    let within : i < length items = omega arith in
    behind (texts c.loop-pred.aliases.items) (texts c.push_of_pred.new.aliases.items)
    (aliases_in_preds (preds_of (map pred_view (drop (i + 1) items))) []) (pred_view item) c.in_ok-push_of_pred.ensures
    ∙ (ap (λ ps. texts c.loop-pred.aliases.items ++ aliases_in_preds ps []) (sym (next_pred items i item within c.pred-item.is)) ∙ c.loop-pred.invariant)

pub push_of_joins-returns : goal.push_of_joins-returns
push_of_joins-returns t c =
    let stand = λ (list : List Join). aliases_in_joins (joins_of (map join_view list)) [] in
    piece_end stand c.deref-join-items.result.now c.loop-join.join-index (texts c.loop-join.aliases.items) _ refl c.loop-join-test.false c.loop-join.invariant
    ∙ ap (λ list. texts c.args.aliases.now.items ++ stand list) c.deref-join-items.ensures.value

pub push_of_preds-returns : goal.push_of_preds-returns
push_of_preds-returns t c =
    let stand = λ (list : List Pred). aliases_in_preds (preds_of (map pred_view list)) [] in
    piece_end stand c.deref-pred-items.result.now c.loop-pred.pred-index (texts c.loop-pred.aliases.items) _ refl c.loop-pred-test.false c.loop-pred.invariant
    ∙ ap (λ list. texts c.args.aliases.now.items ++ stand list) c.deref-pred-items.ensures.value
