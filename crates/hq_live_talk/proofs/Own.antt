-- Subscriptions of one subscriber.
use Rattle.std.proofs.lemmas.Grind.{common_steps}
use Rattle.std.proofs.lemmas.List.Elements.{filter-append}
use Rattle.std.proofs.lemmas.Bool.{true≢false}
use Rattle.std.proofs.Common.{arith, ◌≡◌, ◌++◌, ◌∷◌, [], ℕ, List, Bool, true, false, ◌==◌, not, filter, cond, refl, sym, ap, ◌∙◌, subst}
use Rattle.hq_live.specs.Answers.{kept, kept_all}
use Rattle.hq_live.specs.Steps.{is_by, is_of, begun}
use Rattle.hq_live.specs.Runs.{Standing, Passes}
use Rattle.hq_live.specs.declared.answer.Polled.{Polled}
use Rattle.hq_live.specs.declared.answer.Polled.TheVariants.{Same, News, Missed}
use Rattle.hq_live.specs.declared.event.Subscription.{Subscription}
use Rattle.hq_live.specs.declared.event.Event.{Event}
use Rattle.hq_live.specs.declared.event.Event.TheVariants as event
use Rattle.hq_live.specs.declared.event.Sent.{Sent}
use Rattle.hq_live_talk.specs.Talks.{IsOwn, IsOwnEvent}

-- not of another subscriber
abbrev pub other : (who : ℕ) → Subscription → Bool
other who s = not (is_by who s)

filter_cons : {A : Type 0} (p : A → Bool) (b : Bool) (x : A) (xs : List A) → filter p (cond b (x ∷ xs) xs) ≡ cond b (cond (p x) (x ∷ filter p xs) (filter p xs)) (filter p xs)
filter_cons p true x xs = refl
filter_cons p false x xs = refl

cond_swap : {A : Type 0} (b c : Bool) (x : A) (xs : List A) → cond b (cond c (x ∷ xs) xs) xs ≡ cond c (cond b (x ∷ xs) xs) xs
cond_swap true true x xs = refl
cond_swap true false x xs = refl
cond_swap false true x xs = refl
cond_swap false false x xs = refl

-- two filters in either order
filter_swap : {A : Type 0} (p q : A → Bool) (xs : List A) → filter p (filter q xs) ≡ filter q (filter p xs)
filter_swap p q [] = refl
filter_swap p q (x ∷ xs) =
    filter_cons p (q x) x (filter q xs)
    ∙ (ap (λ l. cond (q x) (cond (p x) (x ∷ l) l) l) (filter_swap p q xs)
    ∙ (cond_swap (q x) (p x) x (filter q (filter p xs)) ∙ sym (filter_cons q (p x) x (filter p xs))))

-- of those of one subscriber, some are left
own_filter : (who : ℕ) (q : Subscription → Bool) (subs : List Subscription) → IsOwn who subs → IsOwn who (filter q subs)
own_filter who q subs own = filter_swap (other who) q subs ∙ ap (filter q) own

kept_who : (s : Subscription) (a : Polled) → (kept s a).who ≡ s.who
kept_who s Same = refl
kept_who s (News reply) = refl
kept_who s (Missed before after) = refl

no_cons : {A : Type 0} (x : A) (xs : List A) → (x ∷ xs) ≡ [] → ⊥
no_cons x xs e = cc e

-- a list of which none is another's has no other at its front, nor behind it
front_own : {A : Type 0} (b : Bool) (x : A) (xs : List A) → cond b (x ∷ xs) xs ≡ [] → b ≡ false
front_own true x xs e = absurd (no_cons x xs e)
front_own false x xs e = refl

rest_own : {A : Type 0} (b : Bool) (x : A) (xs : List A) → cond b (x ∷ xs) xs ≡ [] → xs ≡ []
rest_own true x xs e = absurd (no_cons x xs e)
rest_own false x xs e = e

cons_own : {A : Type 0} (b : Bool) (x : A) (xs : List A) → b ≡ false → xs ≡ [] → cond b (x ∷ xs) xs ≡ []
cons_own true x xs e h = absurd (true≢false e)
cons_own false x xs e h = h

-- the same subscribers behind their answers
own_kept : (who : ℕ) (subs : List Subscription) (answers : List Polled) → IsOwn who subs → IsOwn who (kept_all subs answers)
own_kept who subs [] own = own
own_kept who [] (a ∷ answers) own = refl
own_kept who (s ∷ subs) (a ∷ answers) own =
    let front : other who s ≡ false = front_own (other who s) s (filter (other who) subs) own in
    let rest : filter (other who) subs ≡ [] = rest_own (other who s) s (filter (other who) subs) own in
    cons_own (other who (kept s a)) (kept s a) (filter (other who) (kept_all subs answers))
    (ap (λ n. not (n == who)) (kept_who s a) ∙ front) (own_kept who subs answers rest)

-- one more of the same subscriber
own_begun : (who : ℕ) (subs : List Subscription) (s : Subscription) → other who s ≡ false → IsOwn who subs → IsOwn who (subs ++ s ∷ [])
own_begun who subs s is own =
    filter-append (other who) subs (s ∷ []) ∙ (ap (λ l. l ++ cond (other who s) (s ∷ []) []) own ∙ cons_own (other who s) s [] is refl)

-- the number of a subscriber is his own
same_who : (w who : ℕ) → w ≡ who → not (w == who) ≡ false
same_who w who e = grind (arith, common_steps)

-- his events leave no subscription of another one
pub own_passes : (who : ℕ) (e : Event) (s t : Standing) (sends : List Sent) → IsOwnEvent who e → Passes e s t sends → IsOwn who s.subscriptions → IsOwn who t.subscriptions
own_passes who (event.Subscribe w id session body) s t sends his h own =
    let a = h.1.0 in
    let b = kept (begun w id session body) a in
    let is : other who b ≡ false = ap (λ n. not (n == who)) (kept_who (begun w id session body) a) ∙ same_who w who his in
    let P : List Subscription → Type 0 = λ l. IsOwn who l in
    subst P (sym h.1.2) (own_begun who s.subscriptions b is own)
own_passes who event.Tick s t sends his h own =
    let P : List Subscription → Type 0 = λ l. IsOwn who l in
    subst P (sym h.1.2) (own_kept who s.subscriptions h.1.0 own)
own_passes who event.Reload s t sends his h own =
    let P : List Subscription → Type 0 = λ l. IsOwn who l in
    subst P (sym h.1.0) own
own_passes who (event.Complete w id) s t sends his h own =
    let P : List Subscription → Type 0 = λ l. IsOwn who l in
    subst P (sym h.1.0) (own_filter who (λ x. not (is_of w id x)) s.subscriptions own)
own_passes who (event.Gone w) s t sends his h own =
    let P : List Subscription → Type 0 = λ l. IsOwn who l in
    subst P (sym h.1.0) (own_filter who (λ x. not (is_by w x)) s.subscriptions own)

-- a refused event leaves all as they were
pub own_stays : (who : ℕ) (before after : List Subscription) → after ≡ before → IsOwn who before → IsOwn who after
own_stays who before after e own = let P : List Subscription → Type 0 = λ l. IsOwn who l in subst P (sym e) own
