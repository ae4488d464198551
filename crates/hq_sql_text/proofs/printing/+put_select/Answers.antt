use Rattle.std.proofs.Common.{◌≡◌, ℕ, List, ◌++◌, map, refl, ap, sym, ◌∙◌, append_assoc}
use Rattle.hq_sql_tree.specs.declared.word.Word.TheVariants as word
use Rattle.hq_sql_tree.specs.Word.{word_text}
use Rattle.hq_sql_tree.specs.Tree as tree
use Rattle.hq_sql_tree.specs.Tree.{joins_of, preds_of}
use Rattle.hq_sql_tree.specs.declared.select.Join.{Join}
use Rattle.hq_sql_tree.specs.declared.select.Pred.{Pred}
use Rattle.hq_sql_tree.specs.View.{expr_view, order_view, out_view, select_view, from_view, join_view, pred_view, filter_view}
use Rattle.hq_sql_tree.specs.Spelling.{separated, each_after, clause_text, order_text, out_text, distinct_text, number_text, select_text, from_text, join_text, join_texts, filter_text, pred_text, pred_texts}
use Rattle.hq_sql_expr.proofs.Between.{rest_of-more, rest_of-end, each_after-more}
use Rattle.hq_sql_text.proofs.Views.{view_rows}
use Rattle.hq_sql_expr.proofs.Joined.{on_ok, five}
use Rattle.hq_sql_text.proofs.printing.+put_select.Goals as goal

-- the pieces of rows
rows_pieces : (s d o f t j w k l n : List ℕ) → (s ++ (d ++ o)) ++ ((f ++ t) ++ (j ++ (w ++ (k ++ (l ++ n))))) ≡ s ++ (d ++ (o ++ (f ++ (t ++ (j ++ (w ++ (k ++ (l ++ n))))))))
rows_pieces s d o f t j w k l n = simp append_assoc

pub put_select-returns-in_ok-put_filter-in-Rows : goal.put_select-returns-in_ok-put_filter-in-Rows
put_select-returns-in_ok-put_filter-in-Rows t c =
    let distinct = distinct_text (map expr_view c.in-Rows.distinct.items) in
    let outs = separated word.Comma (map out_text (map out_view c.in-Rows.outs.items)) in
    let from = from_text (from_view c.in-Rows.from) in
    let joins = each_after word.LateralJoin (join_texts (joins_of (map join_view c.in-Rows.joins.items))) in
    let condition = filter_text (filter_view c.in-Rows.filter) in
    let keys = clause_text word.OrderBy word.Comma (map order_text (map order_view c.in-Rows.order.items)) in
    let limit = number_text word.Limit c.in-Rows.limit in
    let offset = number_text word.Offset c.in-Rows.offset in
    let seen : select_view c.args.select.now
    ≡ tree.rows (map expr_view c.in-Rows.distinct.items) (map out_view c.in-Rows.outs.items) (from_view c.in-Rows.from)
    (joins_of (map join_view c.in-Rows.joins.items)) (filter_view c.in-Rows.filter) (map order_view c.in-Rows.order.items)
    c.in-Rows.limit c.in-Rows.offset =
    ap select_view c.in-Rows.is ∙ view_rows c.in-Rows.distinct c.in-Rows.outs c.in-Rows.from c.in-Rows.joins c.in-Rows.filter c.in-Rows.order c.in-Rows.limit c.in-Rows.offset in
    let text : select_text (select_view c.args.select.now) ≡ (word_text word.Select ++ (distinct ++ outs)) ++ ((word_text word.From ++ from) ++ (joins ++ (condition ++ (keys ++ (limit ++ offset))))) =
    ap select_text seen ∙ sym (rows_pieces (word_text word.Select) distinct outs (word_text word.From) from joins condition keys limit offset) in
    on_ok c.put_end.result
    (λ e. five c.args.out.now.items c.put_outputs.new.out.items c.put_from.new.out.items c.put_joins.new.out.items
    c.put_filter.new.out.items c.put_end.new.out.items (word_text word.Select ++ (distinct ++ outs)) (word_text word.From ++ from) joins
    condition (keys ++ (limit ++ offset))
    c.in_ok-put_outputs-in-Rows.ensures c.in_ok-put_from-in-Rows.ensures c.in_ok-put_joins-in-Rows.ensures c.in_ok-put_filter-in-Rows.ensures e ∙ ap (λ t. c.args.out.now.items ++ t) (sym text))
    c.put_end.ensures

pub put_pred_list-loop-i-preserved : goal.put_pred_list-loop-i-preserved
put_pred_list-loop-i-preserved t c =
    let below = rw c.deref-pred-items.ensures.value at c.loop-i-test.true in
    let is = rw c.deref-pred-items.ensures.value at c.pred-item.is in
    rest_of-more c.args.word (λ (ps : List Pred). pred_texts (preds_of (map pred_view ps))) c.args.preds.now.items c.loop-i.i
    c.pred-item.result (pred_text (pred_view c.pred-item.result)) c.loop-i.out.items c.put_between.new.out.items c.put_pred.new.out.items
    _ c.loop-i.invariant below is refl c.in_ok-put_between.ensures c.in_ok-put_pred.ensures

pub put_pred_list-returns : goal.put_pred_list-returns
put_pred_list-returns t c =
    let over = rw c.deref-pred-items.ensures.value at c.loop-i-test.false in
    rest_of-end c.args.word c.loop-i.i (λ (ps : List Pred). pred_texts (preds_of (map pred_view ps))) c.args.preds.now.items c.loop-i.i c.loop-i.out.items _ refl over c.loop-i.invariant

pub put_joins-returns : goal.put_joins-returns
put_joins-returns t c =
    let texts = λ (js : List Join). join_texts (joins_of (map join_view js)) in
    rest_of-end word.LateralJoin 1 texts c.deref-join-items.result.now c.loop-join.join-index c.loop-join.out.items _ refl c.loop-join-test.false c.loop-join.invariant
    ∙ ap (λ js. c.args.out.now.items ++ each_after word.LateralJoin (texts js)) c.deref-join-items.ensures.value

pub put_joins-loop-join-preserved : goal.put_joins-loop-join-preserved
put_joins-loop-join-preserved t c =
    each_after-more word.LateralJoin 1 (λ (js : List Join). join_texts (joins_of (map join_view js))) c.deref-join-items.result.now
    c.loop-join.join-index c.join-item.result (join_text (join_view c.join-item.result)) c.loop-join.out.items c.put_word.new.out.items
    c.put_join.new.out.items _ c.loop-join.invariant c.loop-join-test.true c.join-item.is refl c.in_ok-put_word.ensures
    c.in_ok-put_join.ensures
