-- Runs of the same events over databases over which the same replies are due send the same.
use Rattle.std.proofs.Common.{◌≡◌, ◌++◌, ◌∷◌, [], ◌⊎◌, cond, ℕ, List, Bool, true, false, filter, map, flat_map, refl, sym, ap, ◌∙◌, inl, inr}
use Rattle.std.specs.Prelude.{⊤}
use Rattle.hq_model.specs.declared.session.Session.{Session}
use Rattle.hq_live.specs.Asking.{Due}
use Rattle.hq_live.specs.Steps.{begun}
use Rattle.hq_live.specs.LiveRun.{Moment, told, holding, said, renewed, sent_at, left_by, live_run, is_to, moments_of, begins_with, sessions_of, SameReplies, Alike, AlikeFor}
use Rattle.hq_live.specs.declared.event.Subscription.{Subscription}
use Rattle.hq_live.specs.declared.event.Event.{Event}
use Rattle.hq_live.specs.declared.event.Event.TheVariants as event
use Rattle.hq_live.proofs.Apart.{apart}

-- over two databases the same replies are due to sessions of this kind
Same : (Session → Type 0) → Due → Due → Type 0
Same P d e = (session : Session) → (body : List ℕ) → P session → d session body ≡ e session body

-- an event begins subscriptions of sessions of this kind alone
BeginsOnly : (Session → Type 0) → Event → Type 0
BeginsOnly P (event.Subscribe who id session body) = P session
BeginsOnly P event.Tick = ⊤
BeginsOnly P event.Reload = ⊤
BeginsOnly P (event.Complete who id) = ⊤
BeginsOnly P (event.Gone who) = ⊤

-- the same events, of sessions of this kind alone, over databases over which the same replies are due to them
AlikeOf : (Session → Type 0) → List Moment → List Moment → Type 0
AlikeOf P [] [] = ⊤
AlikeOf P [] (n ∷ ns) = ⊥
AlikeOf P (m ∷ ms) [] = ⊥
AlikeOf P (m ∷ ms) (n ∷ ns) = (n.event ≡ m.event) × BeginsOnly P m.event × Same P m.due n.due × AlikeOf P ms ns

-- subscriptions of sessions of this kind alone
OnlyOf : (Session → Type 0) → List Subscription → Type 0
OnlyOf P [] = ⊤
OnlyOf P (s ∷ subs) = P s.session × OnlyOf P subs

-- a tick sends the same over both
said_alike : (P : Session → Type 0) (d e : Due) (subs : List Subscription) → Same P d e → OnlyOf P subs → flat_map (said d) subs ≡ flat_map (said e) subs
unfolding Same OnlyOf
said_alike P d e [] h only = refl
said_alike P d e (s ∷ subs) h only =
    ap (λ r. told s r ++ flat_map (said d) subs) (h s.session s.body only.0) ∙ ap (λ l. said e s ++ l) (said_alike P d e subs h only.1)

-- and leaves the same subscriptions
renewed_alike : (P : Session → Type 0) (d e : Due) (subs : List Subscription) → Same P d e → OnlyOf P subs → map (renewed d) subs ≡ map (renewed e) subs
unfolding Same OnlyOf
renewed_alike P d e [] h only = refl
renewed_alike P d e (s ∷ subs) h only =
    ap (λ r. holding s r ∷ map (renewed d) subs) (h s.session s.body only.0) ∙ ap (λ l. renewed e s ∷ l) (renewed_alike P d e subs h only.1)

-- an event sends the same over both
sent_alike : (P : Session → Type 0) (v : Event) (d e : Due) (subs : List Subscription) → BeginsOnly P v → Same P d e → OnlyOf P subs → sent_at v d subs ≡ sent_at v e subs
unfolding Same BeginsOnly
sent_alike P (event.Subscribe who id session body) d e subs p h only = ap (λ r. told (begun who id session body) r) (h session body p)
sent_alike P event.Tick d e subs p h only = said_alike P d e subs h only
sent_alike P event.Reload d e subs p h only = refl
sent_alike P (event.Complete who id) d e subs p h only = refl
sent_alike P (event.Gone who) d e subs p h only = refl

-- and leaves the same subscriptions
left_alike : (P : Session → Type 0) (v : Event) (d e : Due) (subs : List Subscription) → BeginsOnly P v → Same P d e → OnlyOf P subs → left_by v d subs ≡ left_by v e subs
unfolding Same BeginsOnly
left_alike P (event.Subscribe who id session body) d e subs p h only = ap (λ r. subs ++ holding (begun who id session body) r ∷ []) (h session body p)
left_alike P event.Tick d e subs p h only = renewed_alike P d e subs h only
left_alike P event.Reload d e subs p h only = refl
left_alike P (event.Complete who id) d e subs p h only = refl
left_alike P (event.Gone who) d e subs p h only = refl

-- one more subscription of this kind
only_more : (P : Session → Type 0) (subs : List Subscription) (s : Subscription) → OnlyOf P subs → P s.session → OnlyOf P (subs ++ s ∷ [])
unfolding OnlyOf
only_more P [] s only p = (p, tt)
only_more P (t ∷ subs) s only p = (only.0, only_more P subs s only.1 p)

-- a tick changes no session
only_renewed : (P : Session → Type 0) (d : Due) (subs : List Subscription) → OnlyOf P subs → OnlyOf P (map (renewed d) subs)
unfolding OnlyOf
only_renewed P d [] only = tt
only_renewed P d (s ∷ subs) only = (only.0, only_renewed P d subs only.1)

-- one more subscription of this kind or not
only_cond : (P : Session → Type 0) (b : Bool) (s : Subscription) (subs : List Subscription) → P s.session → OnlyOf P subs → OnlyOf P (cond b (s ∷ subs) subs)
unfolding OnlyOf
only_cond P true s subs p only = (p, only)
only_cond P false s subs p only = only

-- some of them
only_filter : (P : Session → Type 0) (q : Subscription → Bool) (subs : List Subscription) → OnlyOf P subs → OnlyOf P (filter q subs)
unfolding OnlyOf
only_filter P q [] only = tt
only_filter P q (s ∷ subs) only = only_cond P (q s) s (filter q subs) only.0 (only_filter P q subs only.1)

-- an event leaves subscriptions of this kind alone
only_left : (P : Session → Type 0) (v : Event) (d : Due) (subs : List Subscription) → BeginsOnly P v → OnlyOf P subs → OnlyOf P (left_by v d subs)
unfolding BeginsOnly
only_left P (event.Subscribe who id session body) d subs p only = only_more P subs (renewed d (begun who id session body)) only p
only_left P event.Tick d subs p only = only_renewed P d subs only
only_left P event.Reload d subs p only = only
only_left P (event.Complete who id) d subs p only = only_filter P _ subs only
only_left P (event.Gone who) d subs p only = only_filter P _ subs only

-- the runs send the same
alike_of : (P : Session → Type 0) (ms ns : List Moment) (subs : List Subscription) → AlikeOf P ms ns → OnlyOf P subs → live_run ms subs ≡ live_run ns subs
unfolding AlikeOf
alike_of P [] [] subs h only = refl
alike_of P [] (n ∷ ns) subs h only = absurd h
alike_of P (m ∷ ms) [] subs h only = absurd h
alike_of P (m ∷ ms) (n ∷ ns) subs h only =
    ap (λ l. l ++ live_run ms (left_by m.event m.due subs)) (sent_alike P m.event m.due n.due subs h.1 h.2 only)
    ∙ (ap (λ l. sent_at m.event n.due subs ++ l) (alike_of P ms ns (left_by m.event m.due subs) h.3 (only_left P m.event m.due subs h.1 only))
    ∙ (ap (λ l. sent_at m.event n.due subs ++ live_run ns l) (left_alike P m.event m.due n.due subs h.1 h.2 only)
    ∙ ap (λ v. sent_at v n.due subs ++ live_run ns (left_by v n.due subs)) (sym h.0)))

-- a session among others
Among : List Session → Session → Type 0
Among [] s = ⊥
Among (t ∷ sessions) s = (t ≡ s) ⊎ Among sessions s

-- in front of others
among_left : (xs ys : List Session) (s : Session) → Among xs s → Among (xs ++ ys) s
unfolding Among
among_left [] ys s h = absurd h
among_left (x ∷ xs) ys s (inl h) = inl h
among_left (x ∷ xs) ys s (inr h) = inr (among_left xs ys s h)

-- behind others
among_right : (xs ys : List Session) (s : Session) → Among ys s → Among (xs ++ ys) s
unfolding Among
among_right [] ys s h = h
among_right (x ∷ xs) ys s h = inr (among_right xs ys s h)

-- to each of these sessions the same replies are due
same_among : (sessions : List Session) (d e : Due) → SameReplies sessions d e → Same (Among sessions) d e
unfolding Same Among
same_among [] d e h s body a = absurd a
same_among (t ∷ sessions) d e h s body (inl a) = ap (λ x. d x body) (sym a) ∙ (h.0 body ∙ ap (λ x. e x body) a)
same_among (t ∷ sessions) d e h s body (inr a) = same_among sessions d e h.1 s body a

-- an event begins its own sessions
begins_own : (P : Session → Type 0) (v : Event) → ((s : Session) → Among (begins_with v) s → P s) → BeginsOnly P v
unfolding Among BeginsOnly
begins_own P (event.Subscribe who id session body) h = h session (inl refl)
begins_own P event.Tick h = tt
begins_own P event.Reload h = tt
begins_own P (event.Complete who id) h = tt
begins_own P (event.Gone who) h = tt

-- moments that are alike for all their sessions
alike_among : (sessions : List Session) (ms ns : List Moment) → ((s : Session) → Among (sessions_of ms) s → Among sessions s)
    → Alike sessions ms ns → AlikeOf (Among sessions) ms ns
unfolding AlikeOf
alike_among sessions [] [] within h = tt
alike_among sessions [] (n ∷ ns) within h = absurd h
alike_among sessions (m ∷ ms) [] within h = absurd h
alike_among sessions (m ∷ ms) (n ∷ ns) within h = (
  h.0,
  begins_own (Among sessions) m.event (λ s a. within s (among_left (begins_with m.event) (sessions_of ms) s a)),
  same_among sessions m.due n.due h.1,
  alike_among sessions ms ns (λ s a. within s (among_right (begins_with m.event) (sessions_of ms) s a)) h.2,
)

-- a subscriber is sent the same in two runs that are alike for him
pub alike : (who : ℕ) (ms ns : List Moment) → AlikeFor who ms ns → filter (is_to who) (live_run ms []) ≡ filter (is_to who) (live_run ns [])
unfolding OnlyOf
alike who ms ns h =
    let own = moments_of who ms in
    apart who ms []
    ∙ (alike_of (Among (sessions_of own)) own (moments_of who ns) [] (alike_among (sessions_of own) own (moments_of who ns) (λ s a. a) h) tt
    ∙ sym (apart who ns []))
