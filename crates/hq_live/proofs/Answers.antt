-- Answers in order, one more at a time.
use Rattle.std.proofs.Common.{◌≡◌, ◌≤◌, ◌<◌, ℕ, ◌+◌, List, [], ◌∷◌, ◌++◌, length, get_or, take, refl, sym, ap, ◌∙◌, subst, arith, add-one, slice_set}
use Rattle.std.proofs.Math.Seq.{take-suc}
use Rattle.hq_live.specs.Asking.{Due}
use Rattle.hq_live.specs.Answers.{IsAnswer, AreAnswers, kept, kept_all}
use Rattle.hq_live.specs.declared.event.Subscription.{Subscription}
use Rattle.hq_live.specs.declared.answer.Polled.{Polled}
use Rattle.hq_live.specs.declared.answer.Polled.TheVariants.{Same, News, Missed}

widened : (due : Due) (s : Subscription) (old mid new : ℕ) (a : Polled) → old ≤ mid → IsAnswer due s mid new a → IsAnswer due s old new a
widened due s old mid new Same le h = (h.0, omega (arith, le, h.1))
widened due s old mid new (News reply) le h = (h.0, h.1, omega (arith, le, h.2))
widened due s old mid new (Missed before after) le h = record { from = omega (arith, le, h.from); rose = h.rose; to = h.to }

answers_more : (due : Due) (old mid new : ℕ) (ss : List Subscription) (answers : List Polled) (s : Subscription) (a : Polled)
    → AreAnswers due old mid ss answers → IsAnswer due s mid new a → AreAnswers due old new (ss ++ s ∷ []) (answers ++ a ∷ [])
answers_more due old mid new [] [] s a h one = (new, widened due s old mid new a h one, omega arith)
answers_more due old mid new [] (b ∷ answers) s a h one = absurd h
answers_more due old mid new (t ∷ ss) [] s a h one = absurd h
answers_more due old mid new (t ∷ ss) (b ∷ answers) s a h one = (h.0, h.1, answers_more due h.0 mid new ss answers s a h.2 one)

-- one more of a list by its place
pub answers_step : (due : Due) (old mid new : ℕ) (all : List Subscription) (i : ℕ) (answers : List Polled) (s : Subscription) (a : Polled)
    → i < length all → s ≡ get_or all i s → AreAnswers due old mid (take i all) answers → IsAnswer due s mid new a
    → AreAnswers due old new (take (i + 1) all) (answers ++ a ∷ [])
answers_step due old mid new all i answers s a lt is h one =
    let e : take (i + 1) all ≡ take i all ++ s ∷ [] = ap (λ n. take n all) (add-one i) ∙ take-suc all i s lt ∙ ap (λ x. take i all ++ x ∷ []) (sym is) in
    let P : List Subscription → Type 0 = λ l. AreAnswers due old new l (answers ++ a ∷ []) in
    subst P (sym e) (answers_more due old mid new (take i all) answers s a h one)

lt-zero : (n : ℕ) → n < 0 → ⊥
lt-zero n h = omega (arith, h)

-- one more reply is kept, at its place
pub kept_next : (all : List Subscription) (answers : List Polled) (s : Subscription) (a : Polled)
    → length answers < length all → s ≡ get_or (kept_all all answers) (length answers) s
    → slice_set (kept_all all answers) (length answers) (kept s a) ≡ kept_all all (answers ++ a ∷ [])
kept_next [] [] s a lt is = absurd (lt-zero 0 lt)
kept_next [] (b ∷ answers) s a lt is = absurd (lt-zero (length (b ∷ answers)) lt)
kept_next (t ∷ all) [] s a lt is = ap (λ x. kept x a ∷ all) is
kept_next (t ∷ all) (b ∷ answers) s a lt is = ap (λ x. kept t b ∷ x) (kept_next all answers s a (omega (arith, lt)) is)

-- where all are answered, further answers change nothing
pub kept_full : (all : List Subscription) (answers : List Polled) (a : Polled) → length all ≤ length answers → kept_all all (answers ++ a ∷ []) ≡ kept_all all answers
kept_full [] [] a le = refl
kept_full [] (b ∷ answers) a le = refl
kept_full (t ∷ all) [] a le = absurd (lt-zero (length all) (omega (arith, le)))
kept_full (t ∷ all) (b ∷ answers) a le = ap (λ x. kept t b ∷ x) (kept_full all answers a (omega (arith, le)))
