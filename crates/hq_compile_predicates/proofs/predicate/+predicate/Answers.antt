use Rattle.std.proofs.Common.{◌≡◌, ◌∙◌, ℕ, ◌+◌, List, [], ◌∷◌, map, drop, refl, rules, sym, ap}
use Rattle.std.proofs.lemmas.Result.{IfOk-weaker}
use Rattle.hq_model.specs.Bexp.{bexp_view, bexps_of}
use Rattle.hq_model.specs.Schema.{table}
use Rattle.hq_model.specs.declared.bexp.Bexp.{Bexp}
use Rattle.hq_sql_tree.specs.Tree.{always}
use Rattle.hq_sql_tree.specs.View.{pred_view}
use Rattle.hq_sql_tree.specs.declared.select.Pred.{the_lemmas}
use Rattle.hq_sql_tree.specs.declared.select.Pred.TheVariants.{True}
use Rattle.hq_translation.specs.Looks.{own_look}
use Rattle.hq_translation.specs.Predicates.{numbers, numbers_all, predicate, predicates}
use Rattle.hq_compile_tables.specs.Contexts.{context_schema, context_granted}
use Rattle.hq_compile_tables.specs.Shown.{look_in}
use Rattle.hq_compile_tables.specs.declared.shown.MaskPlace.{MaskPlace}
use Rattle.hq_compile_tables.proofs.Loops.{viewed_rest-more, count-more}
use Rattle.hq_compile_predicates.proofs.Remotes.{counted_of, remote_of, row_of}
use Rattle.hq_compile_predicates.proofs.predicate.+predicate.Goals as goal

-- the condition on counted rows is put together from its parts
pub counted_row-returns-clause-predicate : goal.counted_row-returns-clause-predicate
counted_row-returns-clause-predicate g t c =
    let s = context_schema c.args.context.now in
    let m = g.C.Counted.mode s (context_granted c.args.context.now) in
    let look = λ (places : List MaskPlace). look_in places (table s c.args.u).columns c.args.n in
    IfOk-weaker c.some_exists.result _ _
    (λ pred is. counted_of s m (bexp_view c.args.inner.now) c.args.u c.args.n c.args.next.now c.masks.new.next c.with_guard.new.next (pred_view c.args.tie)
    _ (look c.as_slice-places.result.now) _ _ _ (pred_view pred)
    is c.in_ok-inner.ensures.predicate c.in_ok-members-2.ensures.numbers c.in_ok-members-2.ensures.members c.in_ok-members.ensures
    (ap look c.as_slice-places.ensures ∙ c.in_ok-parts.ensures.looks) c.in_ok-parts.ensures.joins c.in_ok-parts.ensures.numbers c.requires)
    c.some_exists.ensures

-- the row behind a relationship is tied to the row
pub remote_row-returns-clause-predicate : goal.remote_row-returns-clause-predicate
remote_row-returns-clause-predicate g t c =
    let s = context_schema c.args.context.now in
    let m = g.C.Counted.mode s (context_granted c.args.context.now) in
    let columns = (table s c.args.t).columns in
    IfOk-weaker c.counted_row.result _ _
    (λ pred is. remote_of s m (bexp_view c.args.inner.now) c.args.t c.args.p c.args.r c.remote-remote.result c.in_ok-n.n c.args.next.now _
    (own_look columns c.args.p) (pred_view pred) is c.in_ok-link.ensures c.remote-remote.ensures c.in_ok-n.ensures.taken)
    c.counted_row.ensures.predicate

pub some_row-returns-clause-predicate : goal.some_row-returns-clause-predicate
some_row-returns-clause-predicate g t c =
    let s = context_schema c.args.context.now in
    let m = g.C.Counted.mode s (context_granted c.args.context.now) in
    let untied : pred_view True ≡ always = search (rules, the_lemmas) in
    IfOk-weaker c.counted_row.result _ _
    (λ pred is. row_of s m (bexp_view c.args.inner.now) c.args.u c.in_ok-n.n 0 0 c.args.next.now (pred_view True) (own_look [] 0) (pred_view pred) is untied c.in_ok-n.ensures.taken)
    c.counted_row.ensures.predicate

-- a condition is made, and the loop goes on behind it and its numbers
pub predicates-loop-bexp-preserved : goal.predicates-loop-bexp-preserved
predicates-loop-bexp-preserved g t c =
    let s = context_schema c.args.context.now in
    let m = g.C.Counted.mode s (context_granted c.args.context.now) in
    let look = look_in c.args.places.now (table s c.args.t).columns c.args.p in
    let from = λ (n : ℕ) (bs : List Bexp). predicates (bexps_of (map bexp_view bs)) s m look c.args.t c.args.p n in
    let count = λ (bs : List Bexp). numbers_all (bexps_of (map bexp_view bs)) s m c.args.t in
    let bexps = c.deref-bexp-items.result.now in
    let i = c.loop-bexp.bexp-index in
    let b = c.bexp-item.result in
    let next = c.loop-bexp.next in
    let head = predicate (bexp_view b) s m look c.args.t c.args.p next in
    record {
      predicates =
          viewed_rest-more pred_view (from next) (from c.predicate_of.new.next) bexps i b c.loop-bexp.preds.items c.push.new.self.items
          c.in_ok-predicate_of.field-0 head _ c.loop-bexp.invariant.predicates c.loop-bexp-test.true c.bexp-item.is
          (ap (λ (n : ℕ). head ∷ from n (drop (i + 1) bexps)) (sym c.in_ok-predicate_of.ensures.numbers)) c.in_ok-predicate_of.ensures.predicate c.in_ok-push.ensures.items;
      numbers =
          count-more count bexps i b next c.predicate_of.new.next (numbers (bexp_view b) s m c.args.t) _ c.loop-bexp.invariant.numbers
          c.loop-bexp-test.true c.bexp-item.is refl c.in_ok-predicate_of.ensures.numbers;
    }
