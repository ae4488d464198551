use Rattle.std.proofs.Common.{◌≡◌, ℕ, List, Some, refl, ◌+◌, ◌<◌, ◌++◌, ◌∷◌, [], length, map, sym, subst, arith}
use Rattle.std.proofs.lemmas.List.{map_push}
use Rattle.std.proofs.lemmas.Result.{err_from_is_err_and}
use Rattle.hq_sql_tree.specs.declared.word.Word.TheVariants as word
use Rattle.hq_sql_tree.specs.View.{join_view, pred_view, select_view}
use Rattle.hq_sql_tree.specs.Tree.{SelectTree}
use Rattle.hq_sql_expr.specs.declared.refusal.ReadRefusal.{ReadRefusal}
use Rattle.hq_sql_expr.specs.declared.refusal.ReadRefusal.TheVariants.{NotSql, Memory}
use Rattle.hq_sql_expr.specs.Reading.{Reads, Refuses, Reader, after, below, all_many, name_at}
use Rattle.hq_sql_expr.proofs.Many.{goes_on, fails, finishes, ends, refuses_more}
use Rattle.hq_sql_text.specs.Reading.{aliased_with, inside_at, join_with, pred_with, select_at}
use Rattle.hq_sql_text.proofs.Below.{inside_below_is, select_below_is}
use Rattle.hq_sql_text.proofs.reading.+read_select.Goals as goal

pub select_below-returns : goal.select_below-returns
select_below-returns t c =
    let lt : 0 < c.args.depth = omega arith in
    subst (Reads (λ x. (select_view x.0.value, x.1.now)) c.select_of.result) (sym (select_below_is c.args.depth c.args.bytes.now lt)) c.select_of.ensures

pub inside_below-returns : goal.inside_below-returns
inside_below-returns t c =
    let lt : 0 < c.args.depth = omega arith in
    subst (Reads (λ x. (pred_view x.0.value, x.1.now)) c.inside_of.result) (sym (inside_below_is c.args.depth c.args.bytes.now lt)) c.inside_of.ensures

-- where no alias is read, neither is the whole
no_alias : (query : Reader SelectTree) (bytes behind rest : List ℕ) (s : SelectTree) (e : ReadRefusal) → query bytes ≡ Some (s, behind)
    → after word.CloseAs behind ≡ Some rest → Refuses e (name_at rest) → Refuses e (aliased_with query bytes)
unfolding aliased_with
no_alias query bytes behind rest s Memory read closed h = tt
no_alias query bytes behind rest s NotSql read closed h = rw (read, closed, h) refl

pub aliased_of-returns-in_err-alias : goal.aliased_of-returns-in_err-alias
aliased_of-returns-in_err-alias t c =
    let p = err_from_is_err_and c.from_residual-in_err-alias.result c.from_residual-in_err-alias.ensures.1 in
    rw (p.1, p.2) (no_alias (below select_at c.args.depth) c.args.bytes.now _ _ _ c.in_err-alias.field-0.0 c.in_ok-select.ensures c.in_ok-rest.ensures c.in_err-alias.ensures)

pub join_list-returns-in_err-join : goal.join_list-returns-in_err-join
join_list-returns-in_err-join t c =
    let l = c.loop in
    let item = join_with (below select_at c.args.depth) in
    let p = err_from_is_err_and c.from_residual.result c.from_residual.ensures.1 in
    rw (p.1, p.2)
    (refuses_more c.in_err-join.field-0.0 _ _ c.in_err-join.ensures
    (fails item word.LateralJoin (map join_view l.found.items) (length c.args.bytes.now + 1) l.counter l.rest.now
    (all_many item word.LateralJoin c.args.bytes.now) c.loop-test.true l.invariant))

pub join_list-returns-in-None : goal.join_list-returns-in-None
join_list-returns-in-None t c =
    let l = c.loop in
    let item = join_with (below select_at c.args.depth) in
    let e : map join_view c.push.new.self.items ≡ map join_view l.found.items ++ join_view c.in_ok-join.join ∷ [] = rw c.in_ok-push.ensures.items (map_push _ l.found.items c.in_ok-join.join) in
    rw e
    (finishes item word.LateralJoin (map join_view l.found.items) (length c.args.bytes.now + 1) l.counter l.rest.now
    (all_many item word.LateralJoin c.args.bytes.now) c.loop-test.true l.invariant _ _ c.in_ok-join.ensures (sym c.in-None.ensures))

pub join_list-loop-preserved : goal.join_list-loop-preserved
join_list-loop-preserved t c =
    let l = c.loop in
    let item = join_with (below select_at c.args.depth) in
    let e : map join_view c.push.new.self.items ≡ map join_view l.found.items ++ join_view c.in_ok-join.join ∷ [] = rw c.in_ok-push.ensures.items (map_push _ l.found.items c.in_ok-join.join) in
    rw e
    (goes_on item word.LateralJoin (map join_view l.found.items) (length c.args.bytes.now + 1) l.counter l.rest.now
    (all_many item word.LateralJoin c.args.bytes.now) c.loop-test.true l.invariant _ _ c.in-Some.next.now c.in_ok-join.ensures
    (sym c.in-Some.ensures))

pub join_list-returns : goal.join_list-returns
join_list-returns t c =
    let l = c.loop in
    let item = join_with (below select_at c.args.depth) in
    ends item word.LateralJoin (map join_view l.found.items) (length c.args.bytes.now + 1) l.counter l.rest.now (all_many item word.LateralJoin c.args.bytes.now) c.loop-test.false l.invariant

pub pred_list-returns-in_err-pred : goal.pred_list-returns-in_err-pred
pred_list-returns-in_err-pred t c =
    let l = c.loop in
    let item = pred_with (below inside_at c.args.depth) (below select_at c.args.depth) in
    let p = err_from_is_err_and c.from_residual.result c.from_residual.ensures.1 in
    rw (p.1, p.2)
    (refuses_more c.in_err-pred.field-0.0 _ _ c.in_err-pred.ensures
    (fails item c.args.between (map pred_view l.found.items) (length c.args.bytes.now + 1) l.counter l.rest.now
    (all_many item c.args.between c.args.bytes.now) c.loop-test.true l.invariant))

pub pred_list-returns-in-None : goal.pred_list-returns-in-None
pred_list-returns-in-None t c =
    let l = c.loop in
    let item = pred_with (below inside_at c.args.depth) (below select_at c.args.depth) in
    let e : map pred_view c.add_last.new.preds.items ≡ map pred_view l.found.items ++ pred_view c.in_ok-pred.pred.value ∷ [] = c.in_ok-add_last.ensures in
    rw e
    (finishes item c.args.between (map pred_view l.found.items) (length c.args.bytes.now + 1) l.counter l.rest.now
    (all_many item c.args.between c.args.bytes.now) c.loop-test.true l.invariant _ _ c.in_ok-pred.ensures (sym c.in-None.ensures))

pub pred_list-loop-preserved : goal.pred_list-loop-preserved
pred_list-loop-preserved t c =
    let l = c.loop in
    let item = pred_with (below inside_at c.args.depth) (below select_at c.args.depth) in
    let e : map pred_view c.add_last.new.preds.items ≡ map pred_view l.found.items ++ pred_view c.in_ok-pred.pred.value ∷ [] = c.in_ok-add_last.ensures in
    rw e
    (goes_on item c.args.between (map pred_view l.found.items) (length c.args.bytes.now + 1) l.counter l.rest.now
    (all_many item c.args.between c.args.bytes.now) c.loop-test.true l.invariant _ _ c.in-Some.next.now c.in_ok-pred.ensures
    (sym c.in-Some.ensures))

pub pred_list-returns : goal.pred_list-returns
pred_list-returns t c =
    let l = c.loop in
    let item = pred_with (below inside_at c.args.depth) (below select_at c.args.depth) in
    ends item c.args.between (map pred_view l.found.items) (length c.args.bytes.now + 1) l.counter l.rest.now (all_many item c.args.between c.args.bytes.now) c.loop-test.false l.invariant
