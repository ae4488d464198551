-- Where nothing that is sent is a miss, it is what the live run sends.
use Rattle.std.proofs.Common.{◌≡◌, ◌≢◌, ◌++◌, ◌∷◌, [], not, ℕ, List, Bool, true, false, Option, None, Some, map, flat_map, refl, sym, ap, ◌∙◌}
use Rattle.std.specs.Cmp.Lexicographic.{same_text, other_text}
use Rattle.hq_live.specs.Asking.{Due}
use Rattle.hq_live.specs.Answers.{IsAnswer, AreAnswers, kept, kept_all, news, news_all, reply_to}
use Rattle.hq_live.specs.Steps.{Steps, begun}
use Rattle.hq_live.specs.LiveRun.{Moment, is_last, one_if, said, renewed, sent_at, left_by, live_run}
use Rattle.hq_live.specs.Runs.{Standing, Runs, AreReplies, IsLiveRun}
use Rattle.hq_live.specs.declared.event.Subscription.{Subscription}
use Rattle.hq_live.specs.declared.event.Event.{Event}
use Rattle.hq_live.specs.declared.event.Event.TheVariants as event
use Rattle.hq_live.specs.declared.event.Sent.{Sent}
use Rattle.hq_live.specs.declared.event.What.TheVariants as what
use Rattle.hq_live.specs.declared.answer.Polled.{Polled}
use Rattle.hq_live.specs.declared.answer.Polled.TheVariants.{Same, News, Missed}

-- a reply that is the last one
yes_last : (last : Option (List ℕ)) (r : List ℕ) (b : Bool) → last ≡ Some r → b ≡ is_last last r → b ≡ true
yes_last None r b h k = cc h
yes_last (Some l) r true h k = refl
yes_last (Some l) r false h k = let e : l ≡ r = cc h in absurd (other_text l r k e)

-- a reply that is not
no_last : (last : Option (List ℕ)) (r : List ℕ) (b : Bool) → last ≢ Some r → b ≡ is_last last r → b ≡ false
no_last None r b h k = k
no_last (Some l) r true h k = absurd (h (ap Some (same_text l r k)))
no_last (Some l) r false h k = refl

-- a reply on its way to a subscription
sending : Subscription → List ℕ → Sent
sending s reply = record { who = s.who; id = s.id; what = what.Reply reply }

-- what a subscription is sent where it is not a miss
news_said : (due : Due) (s : Subscription) (old new : ℕ) (a : Polled) → IsAnswer due s old new a → AreReplies (news s a) → news s a ≡ said due s
unfolding sending
news_said due s old new Same h k = sym (ap (λ b. one_if (not b) (sending s (reply_to due s))) (yes_last s.last (reply_to due s) (is_last s.last (reply_to due s)) h.0 refl))
news_said due s old new (News r) h k =
    ap (λ q. sending s q ∷ []) h.0
    ∙ sym (ap (λ b. one_if (not b) (sending s (reply_to due s))) (no_last s.last (reply_to due s) (is_last s.last (reply_to due s)) h.1 refl))
news_said due s old new (Missed before after) h k = absurd k.0

-- and what becomes of the subscription
kept_renewed : (due : Due) (s : Subscription) (old new : ℕ) (a : Polled) → IsAnswer due s old new a → AreReplies (news s a) → kept s a ≡ renewed due s
kept_renewed due s old new Same h k = ap (λ (o : Option (List ℕ)). record s { last = o }) h.0
kept_renewed due s old new (News r) h k = ap (λ (q : List ℕ). record s { last = Some q }) h.0
kept_renewed due s old new (Missed before after) h k = absurd k.0

-- the first ones of replies
replies_left : (xs ys : List Sent) → AreReplies (xs ++ ys) → AreReplies xs
replies_left [] ys h = tt
replies_left (x ∷ xs) ys h = (h.0, replies_left xs ys h.1)

-- the last ones of replies
replies_right : (xs ys : List Sent) → AreReplies (xs ++ ys) → AreReplies ys
replies_right [] ys h = h
replies_right (x ∷ xs) ys h = replies_right xs ys h.1

-- what all subscriptions are sent
news_all_said : (due : Due) (old new : ℕ) (subs : List Subscription) (answers : List Polled) → AreAnswers due old new subs answers → AreReplies (news_all subs answers)
    → news_all subs answers ≡ flat_map (said due) subs
news_all_said due old new [] [] h k = refl
news_all_said due old new [] (a ∷ answers) h k = absurd h
news_all_said due old new (s ∷ subs) [] h k = absurd h
news_all_said due old new (s ∷ subs) (a ∷ answers) h k =
    ap (λ l. l ++ news_all subs answers) (news_said due s old h.0 a h.1 (replies_left (news s a) (news_all subs answers) k))
    ∙ ap (λ l. said due s ++ l) (news_all_said due h.0 new subs answers h.2 (replies_right (news s a) (news_all subs answers) k))

-- and what becomes of them
kept_all_renewed : (due : Due) (old new : ℕ) (subs : List Subscription) (answers : List Polled) → AreAnswers due old new subs answers → AreReplies (news_all subs answers)
    → kept_all subs answers ≡ map (renewed due) subs
kept_all_renewed due old new [] [] h k = refl
kept_all_renewed due old new [] (a ∷ answers) h k = absurd h
kept_all_renewed due old new (s ∷ subs) [] h k = absurd h
kept_all_renewed due old new (s ∷ subs) (a ∷ answers) h k =
    ap (λ x. x ∷ kept_all subs answers) (kept_renewed due s old h.0 a h.1 (replies_left (news s a) (news_all subs answers) k))
    ∙ ap (λ l. renewed due s ∷ l) (kept_all_renewed due h.0 new subs answers h.2 (replies_right (news s a) (news_all subs answers) k))

-- what an event sends, and which subscriptions it leaves
step_plain : (due : Due) (old new : ℕ) (e : Event) (before after : List Subscription) (sends : List Sent)
    → Steps due old new e before after sends → AreReplies sends → (sends ≡ sent_at e due before) × (after ≡ left_by e due before)
step_plain due old new (event.Subscribe who id session body) before after sends h k =
    let s = begun who id session body in
    let own : AreReplies (news s h.0) = rw (← h.3) k in
    (h.3 ∙ news_said due s old new h.0 h.1 own, h.2 ∙ ap (λ (x : Subscription). before ++ x ∷ []) (kept_renewed due s old new h.0 h.1 own))
step_plain due old new event.Tick before after sends h k =
    let own : AreReplies (news_all before h.0) = rw (← h.3) k in
    (h.3 ∙ news_all_said due old new before h.0 h.1 own, h.2 ∙ kept_all_renewed due old new before h.0 h.1 own)
step_plain due old new event.Reload before after sends h k = (h.1, h.0)
step_plain due old new (event.Complete who id) before after sends h k = (h.1, h.0)
step_plain due old new (event.Gone who) before after sends h k = (h.1, h.0)

-- what events send is the live run over the databases that are present
pub runs_plain : (events : List Event) (s t : Standing) (sends : List Sent) → Runs events s t sends → AreReplies sends → IsLiveRun events s sends
runs_plain [] s t sends h k = ([], refl, h.1)
runs_plain (e ∷ events) s t sends h k =
    let mid = h.0 in
    let all : AreReplies (h.1 ++ h.2) = rw (← h.5) k in
    let one = step_plain s.due s.faults mid.faults e s.subscriptions mid.subscriptions h.1 h.3.1 (replies_left h.1 h.2 all) in
    let more = runs_plain events mid t h.2 h.4 (replies_right h.1 h.2 all) in
    let m : Moment = record { event = e; due = s.due } in (
      m ∷ more.0,
      (refl, (mid.due, mid.next, h.3.2, more.1)),
      h.5
          ∙ (ap (λ l. l ++ h.2) one.0
          ∙ (ap (λ l. sent_at e s.due s.subscriptions ++ l) more.2 ∙ ap (λ l. sent_at e s.due s.subscriptions ++ live_run more.0 l) one.1)),
    )
