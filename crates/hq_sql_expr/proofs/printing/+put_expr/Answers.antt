use Rattle.std.proofs.Common.{◌≡◌, ◌∙◌, ◌++◌, List, map, refl, sym, ap, rules}
use Rattle.std.specs.Global.{Vec}
use Rattle.hq_sql_tree.specs.declared.expr.Agg.{the_lemmas}
use Rattle.hq_sql_tree.specs.declared.expr.Expr.{Object}
use Rattle.hq_sql_tree.specs.declared.expr.ExprPair.{ExprPair}
use Rattle.hq_sql_tree.specs.declared.expr.Order.{Order}
use Rattle.hq_sql_tree.specs.declared.word.Word.TheVariants as word
use Rattle.hq_sql_tree.specs.Word.{word_text}
use Rattle.hq_sql_tree.specs.Spelling.{separated, agg_text, expr_text, pair_text, pair_texts, order_text, order_texts}
use Rattle.hq_sql_tree.specs.Tree as tree
use Rattle.hq_sql_tree.specs.Tree.{pairs_of, orders_of}
use Rattle.hq_sql_tree.specs.View.{agg_view, expr_view, pair_view, order_view}
use Rattle.hq_sql_tree.proofs.Views.{view_json_agg}
use Rattle.hq_sql_expr.proofs.Joined.{on_ok, three, five}
use Rattle.hq_sql_expr.proofs.Between.{rest_of-more, rest_of-end}
use Rattle.hq_sql_expr.proofs.printing.+put_expr.Goals as goal

pub put_pairs-loop-i-preserved : goal.put_pairs-loop-i-preserved
put_pairs-loop-i-preserved t c =
    let below = rw c.deref-pair-items.ensures.value at c.loop-i-test.true in
    let is = rw c.deref-pair-items.ensures.value at c.pair-item.is in
    rest_of-more word.Comma (λ (ps : List ExprPair). pair_texts (pairs_of (map pair_view ps))) c.args.pairs.now.items c.loop-i.i
    c.pair-item.result (pair_text (pair_view c.pair-item.result)) c.loop-i.out.items c.put_between.new.out.items c.put_pair.new.out.items
    _ c.loop-i.invariant below is refl c.in_ok-put_between.ensures c.in_ok-put_pair.ensures

pub put_orders-loop-i-preserved : goal.put_orders-loop-i-preserved
put_orders-loop-i-preserved t c =
    let below = rw c.deref-order-items.ensures.value at c.loop-i-test.true in
    let is = rw c.deref-order-items.ensures.value at c.order-item.is in
    rest_of-more word.Comma (λ (os : List Order). order_texts (orders_of (map order_view os))) c.args.orders.now.items c.loop-i.i
    c.order-item.result (order_text (order_view c.order-item.result)) c.loop-i.out.items c.put_between.new.out.items
    c.put_order.new.out.items _ c.loop-i.invariant below is refl c.in_ok-put_between.ensures c.in_ok-put_order.ensures

pub put_pairs-returns : goal.put_pairs-returns
put_pairs-returns t c =
    let over = rw c.deref-pair-items.ensures.value at c.loop-i-test.false in
    rest_of-end word.Comma c.loop-i.i (λ (xs : List ExprPair). pair_texts (pairs_of (map pair_view xs))) c.args.pairs.now.items c.loop-i.i c.loop-i.out.items _ refl over c.loop-i.invariant

pub put_orders-returns : goal.put_orders-returns
put_orders-returns t c =
    let over = rw c.deref-order-items.ensures.value at c.loop-i-test.false in
    rest_of-end word.Comma c.loop-i.i (λ (xs : List Order). order_texts (orders_of (map order_view xs))) c.args.orders.now.items c.loop-i.i c.loop-i.out.items _ refl over c.loop-i.invariant

-- what an object is seen as
view_object : (pairs : Vec ExprPair) → expr_view (Object pairs) ≡ tree.object (pairs_of (map pair_view pairs.items))
view_object pairs = search (rules, the_lemmas)

pub put_expr-returns-in_ok-put_pairs-in-Object : goal.put_expr-returns-in_ok-put_pairs-in-Object
put_expr-returns-in_ok-put_pairs-in-Object t c =
    let out = c.args.out.now.items in
    let seen = ap expr_view c.in-Object.is ∙ view_object c.in-Object.pairs in
    on_ok c.put_word-in-Object-2.result
    (λ e. three out c.put_word-in-Object.new.out.items c.put_pairs.new.out.items c.put_word-in-Object-2.new.out.items
    (word_text word.BuildObject) (separated word.Comma (pair_texts (pairs_of (map pair_view c.in-Object.pairs.items))))
    (word_text word.Close)
    c.in_ok-put_word-in-Object.ensures c.in_ok-put_pairs-in-Object.ensures e ∙ ap (λ x. out ++ expr_text x) (sym seen))
    c.put_word-in-Object-2.ensures

pub put_agg-returns-in_ok-put_orders-in-JsonAgg : goal.put_agg-returns-in_ok-put_orders-in-JsonAgg
put_agg-returns-in_ok-put_orders-in-JsonAgg t c =
    let out = c.args.out.now.items in
    let begun = c.put_word-in-JsonAgg.new.out.items in
    let value = expr_text (expr_view c.in-JsonAgg.value.value) in
    let keys = separated word.Comma (order_texts (orders_of (map order_view c.in-JsonAgg.order.items))) in
    let seen = ap agg_view c.in-JsonAgg.is ∙ view_json_agg c.in-JsonAgg.value c.in-JsonAgg.order in
    on_ok c.put_word-in-JsonAgg-3.result
    (λ e. five out begun c.put_expr.new.out.items c.put_word-in-JsonAgg-2.new.out.items c.put_orders.new.out.items
    c.put_word-in-JsonAgg-3.new.out.items (word_text word.JsonAgg) value (word_text word.OrderBy) keys (word_text word.OrEmptyArray)
    c.in_ok-put_word-in-JsonAgg.ensures
    (c.in_ok-put_expr-in-JsonAgg.ensures ∙ ap (λ x. begun ++ expr_text (expr_view x)) c.deref-in-JsonAgg.ensures)
    c.in_ok-put_word-in-JsonAgg-2.ensures c.in_ok-put_orders-in-JsonAgg.ensures e
    ∙ ap (λ a. out ++ agg_text a) (sym seen))
    c.put_word-in-JsonAgg-3.ensures
