use Rattle.std.proofs.Common.{◌∙◌, refl, sym, ap, List, ◌+◌, ◌<◌, ◌++◌, map, drop, length, arith}
use Rattle.std.proofs.lemmas.Result.{on_ok_weaker}
use Rattle.hq_sql_tree.specs.declared.select.Join.{Join}
use Rattle.hq_sql_tree.specs.declared.select.Pred.{Pred}
use Rattle.hq_sql_tree.specs.Tree.{joins_of, preds_of}
use Rattle.hq_sql_tree.specs.View.{select_view, from_view, join_view, filter_view, pred_view}
use Rattle.hq_sql_check.specs.Scans.{places, places_of_from, places_of_joins, places_of_filter, places_of_pred, places_of_preds}
use Rattle.hq_sql_tree.proofs.Next.{next_join, next_pred}
use Rattle.hq_sql_tree.proofs.Views.{view_rows}
use Rattle.hq_sql_check.proofs.Next.{piece_more, piece_end, three_pieces}
use Rattle.hq_sql_check.proofs.places.+places.Goals as goal

pub add_places-returns-in_ok-add_joins-in-Rows : goal.add_places-returns-in_ok-add_joins-in-Rows
add_places-returns-in_ok-add_joins-in-Rows t c =
    let r = c.in-Rows in
    let tables = c.args.tables.now in
    let seen = ap select_view c.in-Rows.is ∙ view_rows r.distinct r.outs r.from r.joins r.filter r.order r.limit r.offset in
    on_ok_weaker c.add_filter.result
    (λ e. three_pieces c.args.found.now.items c.add_from.new.found.items c.add_joins.new.found.items c.add_filter.new.found.items
    (places_of_from (from_view r.from) tables) (places_of_joins (joins_of (map join_view r.joins.items)) tables)
    (places_of_filter (filter_view r.filter) tables)
    c.in_ok-add_from-in-Rows.ensures c.in_ok-add_joins-in-Rows.ensures e ∙ ap (λ s. c.args.found.now.items ++ places s tables) (sym seen))
    c.add_filter.ensures

pub add_joins-loop-join-preserved : goal.add_joins-loop-join-preserved
add_joins-loop-join-preserved t c =
    let items = c.deref-join-items.result.now in
    let i = c.loop-join.join-index in
    let item = c.join-item.result in
    let within : i < length items = omega arith in
    let tables = c.args.tables.now in
    let found = c.loop-join.found.items in
    piece_more found c.add_places.new.found.items (places (select_view item.select.value) tables)
    (places_of_joins (joins_of (map join_view (drop (i + 1) items))) tables)
    (places_of_joins (joins_of (map join_view (drop i items))) tables) _
    (c.in_ok-add_places.ensures ∙ ap (λ s. found ++ places (select_view s) tables) c.deref.ensures)
    (ap (λ js. places_of_joins js tables) (next_join items i item within c.join-item.is)) c.loop-join.invariant

pub add_preds-loop-pred-preserved : goal.add_preds-loop-pred-preserved
add_preds-loop-pred-preserved t c =
    let items = c.deref-pred-items.result.now in
    let i = c.loop-pred.pred-index in
    let item = c.pred-item.result in
    let within : i < length items = omega arith in
    let tables = c.args.tables.now in
    piece_more c.loop-pred.found.items c.add_pred.new.found.items (places_of_pred (pred_view item) tables)
    (places_of_preds (preds_of (map pred_view (drop (i + 1) items))) tables)
    (places_of_preds (preds_of (map pred_view (drop i items))) tables) _
    c.in_ok-add_pred.ensures
    (ap (λ ps. places_of_preds ps tables) (next_pred items i item within c.pred-item.is)) c.loop-pred.invariant

pub add_joins-returns : goal.add_joins-returns
add_joins-returns t c =
    let stand = λ (list : List Join). places_of_joins (joins_of (map join_view list)) c.args.tables.now in
    piece_end stand c.deref-join-items.result.now c.loop-join.join-index (c.loop-join.found.items) _ refl c.loop-join-test.false c.loop-join.invariant
    ∙ ap (λ list. c.args.found.now.items ++ stand list) c.deref-join-items.ensures.value

pub add_preds-returns : goal.add_preds-returns
add_preds-returns t c =
    let stand = λ (list : List Pred). places_of_preds (preds_of (map pred_view list)) c.args.tables.now in
    piece_end stand c.deref-pred-items.result.now c.loop-pred.pred-index (c.loop-pred.found.items) _ refl c.loop-pred-test.false c.loop-pred.invariant
    ∙ ap (λ list. c.args.found.now.items ++ stand list) c.deref-pred-items.ensures.value
