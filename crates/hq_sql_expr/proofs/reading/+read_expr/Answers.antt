use Rattle.std.proofs.Common.{◌≡◌, ◌+◌, ◌<◌, ◌++◌, ◌∷◌, [], length, map, sym, subst, arith}
use Rattle.std.proofs.lemmas.List.{map_push}
use Rattle.std.proofs.lemmas.Result.{err_from_is_err_and}
use Rattle.hq_sql_tree.specs.declared.word.Word.TheVariants as word
use Rattle.hq_sql_tree.specs.View.{expr_view, pair_view, order_view}
use Rattle.hq_sql_expr.specs.Reading.{Reads, pair_with, order_with, expr_with, below, inside_at, all_many}
use Rattle.hq_sql_expr.proofs.Below.{inside_below_is, listed_below_is}
use Rattle.hq_sql_expr.proofs.Many.{goes_on, fails, finishes, ends, refuses_more}
use Rattle.hq_sql_expr.proofs.reading.+read_expr.Goals as goal

pub inside_below-returns : goal.inside_below-returns
inside_below-returns t c =
    let lt : 0 < c.args.depth = omega arith in
    subst (Reads (λ x. (expr_view x.0, x.1.now)) c.inside_of.result) (sym (inside_below_is c.args.head c.args.depth c.args.bytes.now lt)) c.inside_of.ensures

pub ordered_below-returns : goal.ordered_below-returns
ordered_below-returns t c =
    let lt : 0 < c.args.depth = omega arith in
    subst (Reads (λ x. (expr_view x.0, x.1.now)) c.ordered_of.result) (sym (listed_below_is c.args.depth c.args.bytes.now lt)) c.ordered_of.ensures

pub pair_list-returns-in_err-pair : goal.pair_list-returns-in_err-pair
pair_list-returns-in_err-pair t c =
    let l = c.loop in
    let item = pair_with (expr_with (λ h. below (inside_at h) c.args.depth)) in
    let p = err_from_is_err_and c.from_residual.result c.from_residual.ensures.1 in
    rw (p.1, p.2)
    (refuses_more c.in_err-pair.field-0.0 _ _ c.in_err-pair.ensures
    (fails item word.Comma (map pair_view l.found.items) (length c.args.bytes.now + 1) l.counter l.rest.now
    (all_many item word.Comma c.args.bytes.now) c.loop-test.true l.invariant))

pub pair_list-returns-in-None : goal.pair_list-returns-in-None
pair_list-returns-in-None t c =
    let l = c.loop in
    let item = pair_with (expr_with (λ h. below (inside_at h) c.args.depth)) in
    let e : map pair_view c.push.new.self.items ≡ map pair_view l.found.items ++ pair_view c.in_ok-pair.pair ∷ [] = rw c.in_ok-push.ensures.items (map_push _ l.found.items c.in_ok-pair.pair) in
    rw e
    (finishes item word.Comma (map pair_view l.found.items) (length c.args.bytes.now + 1) l.counter l.rest.now
    (all_many item word.Comma c.args.bytes.now) c.loop-test.true l.invariant _ _ c.in_ok-pair.ensures (sym c.in-None.ensures))

pub pair_list-loop-preserved : goal.pair_list-loop-preserved
pair_list-loop-preserved t c =
    let l = c.loop in
    let item = pair_with (expr_with (λ h. below (inside_at h) c.args.depth)) in
    let e : map pair_view c.push.new.self.items ≡ map pair_view l.found.items ++ pair_view c.in_ok-pair.pair ∷ [] = rw c.in_ok-push.ensures.items (map_push _ l.found.items c.in_ok-pair.pair) in
    rw e
    (goes_on item word.Comma (map pair_view l.found.items) (length c.args.bytes.now + 1) l.counter l.rest.now
    (all_many item word.Comma c.args.bytes.now) c.loop-test.true l.invariant _ _ c.in-Some.next.now c.in_ok-pair.ensures
    (sym c.in-Some.ensures))

pub pair_list-returns : goal.pair_list-returns
pair_list-returns t c =
    let l = c.loop in
    let item = pair_with (expr_with (λ h. below (inside_at h) c.args.depth)) in
    ends item word.Comma (map pair_view l.found.items) (length c.args.bytes.now + 1) l.counter l.rest.now (all_many item word.Comma c.args.bytes.now) c.loop-test.false l.invariant

pub order_list-returns-in_err-order : goal.order_list-returns-in_err-order
order_list-returns-in_err-order t c =
    let l = c.loop in
    let item = order_with (expr_with (λ h. below (inside_at h) c.args.depth)) in
    let p = err_from_is_err_and c.from_residual.result c.from_residual.ensures.1 in
    rw (p.1, p.2)
    (refuses_more c.in_err-order.field-0.0 _ _ c.in_err-order.ensures
    (fails item word.Comma (map order_view l.found.items) (length c.args.bytes.now + 1) l.counter l.rest.now
    (all_many item word.Comma c.args.bytes.now) c.loop-test.true l.invariant))

pub order_list-returns-in-None : goal.order_list-returns-in-None
order_list-returns-in-None t c =
    let l = c.loop in
    let item = order_with (expr_with (λ h. below (inside_at h) c.args.depth)) in
    let e : map order_view c.push.new.self.items ≡ map order_view l.found.items ++ order_view c.in_ok-order.order ∷ [] = rw c.in_ok-push.ensures.items (map_push _ l.found.items c.in_ok-order.order) in
    rw e
    (finishes item word.Comma (map order_view l.found.items) (length c.args.bytes.now + 1) l.counter l.rest.now
    (all_many item word.Comma c.args.bytes.now) c.loop-test.true l.invariant _ _ c.in_ok-order.ensures (sym c.in-None.ensures))

pub order_list-loop-preserved : goal.order_list-loop-preserved
order_list-loop-preserved t c =
    let l = c.loop in
    let item = order_with (expr_with (λ h. below (inside_at h) c.args.depth)) in
    let e : map order_view c.push.new.self.items ≡ map order_view l.found.items ++ order_view c.in_ok-order.order ∷ [] = rw c.in_ok-push.ensures.items (map_push _ l.found.items c.in_ok-order.order) in
    rw e
    (goes_on item word.Comma (map order_view l.found.items) (length c.args.bytes.now + 1) l.counter l.rest.now
    (all_many item word.Comma c.args.bytes.now) c.loop-test.true l.invariant _ _ c.in-Some.next.now c.in_ok-order.ensures
    (sym c.in-Some.ensures))

pub order_list-returns : goal.order_list-returns
order_list-returns t c =
    let l = c.loop in
    let item = order_with (expr_with (λ h. below (inside_at h) c.args.depth)) in
    ends item word.Comma (map order_view l.found.items) (length c.args.bytes.now + 1) l.counter l.rest.now (all_many item word.Comma c.args.bytes.now) c.loop-test.false l.invariant
