use Rattle.std.proofs.Common.{◌∙◌, ◌+◌, ◌<◌, List, drop, length, map, sym, ap, arith}
use Rattle.hq_sql_tree.specs.Tree.{pairs_of}
use Rattle.hq_sql_tree.specs.View.{expr_view, pair_view}
use Rattle.hq_sql_tree.specs.declared.expr.ExprPair.{ExprPair}
use Rattle.hq_sql_tree.proofs.Next.{next_pair}
use Rattle.hq_confine_rules.specs.Uses.{shows_order, show_order}
use Rattle.hq_confine_uses.proofs.Walks.{found_next, passed_next}
use Rattle.hq_confine_uses.proofs.uses.+shows.Goals as goal

pub show_order-loop-pair-preserved : goal.show_order-loop-pair-preserved
show_order-loop-pair-preserved t c =
    let items = c.deref-pair-items.result.now in
    let i = c.loop-pair.pair-index in
    let item = c.pair-item.result in
    let within : i < length items = omega arith in
    let whole = λ (list : List ExprPair). show_order (pairs_of (map pair_view list)) in
    passed_next (shows_order (expr_view item.value)) (whole (drop (i + 1) items)) (whole (drop i items)) (whole items)
    (ap show_order (next_pair items i item within c.pair-item.is)) c.loop-pair.invariant (sym c.shows_order.ensures ∙ c.if-shows_order.false)

pub show_order-returns-then-shows_order : goal.show_order-returns-then-shows_order
show_order-returns-then-shows_order t c =
    let items = c.deref-pair-items.result.now in
    let i = c.loop-pair.pair-index in
    let item = c.pair-item.result in
    let within : i < length items = omega arith in
    let whole = λ (list : List ExprPair). show_order (pairs_of (map pair_view list)) in
    found_next (shows_order (expr_view item.value)) (whole (drop (i + 1) items)) (whole (drop i items)) (whole items)
    (ap show_order (next_pair items i item within c.pair-item.is)) c.loop-pair.invariant (sym c.shows_order.ensures ∙ c.if-shows_order.true)
    ∙ ap whole c.deref-pair-items.ensures.value
