-- The live run as a fold over events, where no ask fails: a function of the events and of the databases that are present at them.
use Rattle.std.specs.Prelude.{◌≡◌, ◌++◌, ◌∷◌, [], ◌==◌, nat_eq, not, ℕ, List, Bool, true, false, Option, None, Some, filter, map, flat_map, ⊤}
use Rattle.std.specs.Cmp.Lexicographic.{pointwise}
use Rattle.hq_model.specs.declared.session.Session.{Session}
use Rattle.hq_live.specs.Asking.{Due}
use Rattle.hq_live.specs.Answers.{reply_to}
use Rattle.hq_live.specs.Steps.{is_of, is_by, begun}
use Rattle.hq_live.specs.declared.event.Subscription.{Subscription}
use Rattle.hq_live.specs.declared.event.Event.{Event}
use Rattle.hq_live.specs.declared.event.Event.TheVariants as event
use Rattle.hq_live.specs.declared.event.Sent.{Sent}
use Rattle.hq_live.specs.declared.event.What.TheVariants as what

-- an event, and the database that is present at it
pub record Moment : Type 0 where
  pub event : Event
  pub due : Due

-- whether a reply is the last one
abbrev pub is_last : Option (List ℕ) → (reply : List ℕ) → Bool
is_last None reply = false
is_last (Some last) reply = pointwise nat_eq last reply

abbrev pub one_if : Bool → Sent → List Sent
one_if true x = x ∷ []
one_if false x = []

-- what a subscription is sent where this reply is due: the reply, if it differs from the last one
abbrev pub told : Subscription → (reply : List ℕ) → List Sent
told s reply = one_if (not (is_last s.last reply)) (record { who = s.who; id = s.id; what = what.Reply reply })

-- a subscription whose last reply is this one
abbrev pub holding : Subscription → (reply : List ℕ) → Subscription
holding s reply = record s { last = Some reply }

abbrev pub said : Due → Subscription → List Sent
said due s = told s (reply_to due s)

abbrev pub renewed : Due → Subscription → Subscription
renewed due s = holding s (reply_to due s)

-- what is sent at an event
abbrev pub sent_at : Event → Due → List Subscription → List Sent
sent_at (event.Subscribe who id session body) due subs = said due (begun who id session body)
sent_at event.Tick due subs = flat_map (said due) subs
sent_at event.Reload due subs = []
sent_at (event.Complete who id) due subs = []
sent_at (event.Gone who) due subs = []

-- the subscriptions after an event
abbrev pub left_by : Event → Due → List Subscription → List Subscription
left_by (event.Subscribe who id session body) due subs = subs ++ renewed due (begun who id session body) ∷ []
left_by event.Tick due subs = map (renewed due) subs
left_by event.Reload due subs = subs
left_by (event.Complete who id) due subs = filter (λ s. not (is_of who id s)) subs
left_by (event.Gone who) due subs = filter (λ s. not (is_by who s)) subs

-- all that is sent
abbrev pub live_run : List Moment → List Subscription → List Sent
live_run [] subs = []
live_run (m ∷ moments) subs = sent_at m.event m.due subs ++ live_run moments (left_by m.event m.due subs)

-- whether something is sent to a subscriber
abbrev pub is_to : (who : ℕ) → Sent → Bool
is_to who x = x.who == who

-- whether an event is a subscriber's own, a tick or a reload
abbrev pub concerns : (who : ℕ) → Event → Bool
concerns w (event.Subscribe who id session body) = who == w
concerns w event.Tick = true
concerns w event.Reload = true
concerns w (event.Complete who id) = who == w
concerns w (event.Gone who) = who == w

-- the moments of a subscriber: those of his own events, of the ticks and of the reloads
abbrev pub moments_of : (who : ℕ) → List Moment → List Moment
moments_of who moments = filter (λ m. concerns who m.event) moments

-- the sessions that an event begins a subscription with
abbrev pub begins_with : Event → List Session
begins_with (event.Subscribe who id session body) = session ∷ []
begins_with event.Tick = []
begins_with event.Reload = []
begins_with (event.Complete who id) = []
begins_with (event.Gone who) = []

-- the sessions of the subscriptions that begin
abbrev pub sessions_of : List Moment → List Session
sessions_of moments = flat_map (λ m. begins_with m.event) moments

-- over two databases, the same replies are due to these sessions
abbrev pub SameReplies : List Session → Due → Due → Type 0
SameReplies [] d e = ⊤
SameReplies (session ∷ sessions) d e = ((body : List ℕ) → d session body ≡ e session body) × SameReplies sessions d e

-- the same events, over databases over which the same replies are due to these sessions, event by event
abbrev pub Alike : List Session → List Moment → List Moment → Type 0
Alike sessions [] [] = ⊤
Alike sessions [] (n ∷ ns) = ⊥
Alike sessions (m ∷ ms) [] = ⊥
Alike sessions (m ∷ ms) (n ∷ ns) = (n.event ≡ m.event) × SameReplies sessions m.due n.due × Alike sessions ms ns

-- a subscriber's own events, the ticks and the reloads of two runs are the same, over databases over which the same replies are
-- due to each of his sessions, event by event
abbrev pub AlikeFor : (who : ℕ) → List Moment → List Moment → Type 0
AlikeFor who ms ns = Alike (sessions_of (moments_of who ms)) (moments_of who ms) (moments_of who ns)
