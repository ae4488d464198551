use Rattle.std.proofs.Common.{◌≡◌, ◌∙◌, sym, ap, ℕ, ◌<◌, ◌≤◌, ◌∷◌, [], length, List, slice_set, get_or, length-append, arith}
use Rattle.hq_live.specs.Answers.{kept, kept_all}
use Rattle.hq_live.specs.declared.event.Subscription.{Subscription}
use Rattle.hq_live.proofs.Answers.{kept_next, kept_full}
use Rattle.hq_live.proofs.keeping.keep_all.Goals as goal

pub keeping-preserved-then-at-subscriptions : goal.keeping-preserved-then-at-subscriptions
keeping-preserved-then-at-subscriptions c =
    let all = c.args.subscriptions.now in
    let answers = c.keeping.yielded in
    let a = c.in-Some.answer in
    let s = c.index-subscriptions-at.result in
    let e : c.keeping.subscriptions ≡ kept_all all answers = c.keeping.invariant.so_far in
    let len : length c.keeping.subscriptions ≡ length all = c.keeping.auto.subscriptions in
    let lt : length answers < length all = omega (arith, len, c.keeping.invariant.place, c.if-at-subscriptions.true) in
    let at : c.keeping.at ≡ length answers = omega (arith, lt, c.keeping.invariant.place) in
    let R : List Subscription → ℕ → Subscription = λ l n. get_or l n s in
    let is : s ≡ get_or (kept_all all answers) (length answers) s =
    c.index-subscriptions-at.is ∙ (ap (λ l. R l c.keeping.at) e ∙ ap (λ n. R (kept_all all answers) n) at)
    in
    let k : c.keep.new.subscription ≡ kept s a = c.keep.ensures ∙ ap (λ (x : Subscription). kept x a) (sym c.index-subscriptions-at.is) in
    record {
      so_far =
          ap (λ (x : Subscription). slice_set c.keeping.subscriptions c.keeping.at x) k
          ∙ (ap (λ (l : List Subscription). slice_set l c.keeping.at (kept s a)) e
          ∙ (ap (λ (n : ℕ). slice_set (kept_all all answers) n (kept s a)) at ∙ kept_next all answers s a lt is));
      place = omega (arith, lt, at, length-append answers (a ∷ []));
    }

pub keeping-preserved-else-at-subscriptions : goal.keeping-preserved-else-at-subscriptions
keeping-preserved-else-at-subscriptions c =
    let all = c.args.subscriptions.now in
    let answers = c.keeping.yielded in
    let a = c.in-Some.answer in
    let len : length c.keeping.subscriptions ≡ length all = c.keeping.auto.subscriptions in
    let le : length all ≤ length answers = omega (arith, len, c.keeping.invariant.place, c.if-at-subscriptions.false) in
    record {
      so_far = c.keeping.invariant.so_far ∙ sym (kept_full all answers a le);
      place = omega (arith, le, c.keeping.invariant.place, length-append answers (a ∷ []));
    }

pub keeping-preserved : goal.keeping-preserved
keeping-preserved c =
    let all = c.args.subscriptions.now in
    let answers = c.keeping.yielded in
    let a = c.in-Some.answer in
    let len : length c.keeping.subscriptions ≡ length all = c.keeping.auto.subscriptions in
    let le : length all ≤ length answers = omega (arith, len, c.keeping.invariant.place, c.if-at-subscriptions.false) in
    record {
      so_far = c.keeping.invariant.so_far ∙ sym (kept_full all answers a le);
      place = omega (arith, le, c.keeping.invariant.place, length-append answers (a ∷ []));
    }
