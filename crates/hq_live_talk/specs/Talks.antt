-- A talk: the messages that were answered, what was sent for each, and how it ended.
use Rattle.std.specs.Prelude.{◌≡◌, ◌≤◌, ◌∷◌, [], ℕ, List, map, filter, not, length, ⊤, Option, None, Some, Ok}
use Rattle.hq_session.specs.declared.header.Header.{Header}
use Rattle.hq_session.specs.declared.hook.HookAnswer.{HookAnswer}
use Rattle.hq_live.specs.Steps.{is_by}
use Rattle.hq_live.specs.Runs.{Standing}
use Rattle.hq_live.specs.declared.event.Subscription.{Subscription}
use Rattle.hq_live.specs.declared.event.Event.{Event}
use Rattle.hq_live.specs.declared.event.Event.TheVariants as event
use Rattle.hq_messages.specs.Messages.{Receives, Sends}
use Rattle.hq_messages.specs.declared.messages.Message.{Message}
use Rattle.hq_messages.specs.declared.messages.In.{In}
use Rattle.hq_messages.specs.declared.messages.In.TheVariants as came
use Rattle.hq_messages.specs.declared.messages.Out.{Out}
use Rattle.hq_messages.specs.declared.messages.Out.TheVariants as out
use Rattle.hq_messages.specs.declared.refusal.LinkRefusal.{LinkRefusal}
use Rattle.hq_messages.specs.declared.refusal.LinkRefusal.TheVariants as refusal
use Rattle.hq_live_talk.specs.Table.{Talk, Row, said_by}
use Rattle.hq_live_talk.specs.declared.end.TalkEnd.{TalkEnd}
use Rattle.hq_live_talk.specs.declared.end.TalkEnd.TheVariants as end

-- the end behind a refusal
abbrev pub IsEndOf : LinkRefusal → TalkEnd → Type 0
IsEndOf refusal.Failed e = e ≡ end.LinkFault
IsEndOf refusal.Memory e = e ≡ end.Memory

-- what a link tells: the messages that are left, and what was sent
pub record Link : Type 0 where
  pub left : Option (List Message)
  pub sent : Option (List Out)

abbrev pub link_of : Option (List Message) → Option (List Out) → Link
link_of left sent = record { left = left; sent = sent }

-- all subscriptions are of this subscriber
abbrev pub IsOwn : (who : ℕ) → List Subscription → Type 0
IsOwn who subs = filter (λ s. not (is_by who s)) subs ≡ []

-- an event of this subscriber, or of nobody
abbrev pub IsOwnEvent : (who : ℕ) → Event → Type 0
IsOwnEvent who (event.Subscribe w id session body) = w ≡ who
IsOwnEvent who event.Tick = ⊤
IsOwnEvent who event.Reload = ⊤
IsOwnEvent who (event.Complete w id) = w ≡ who
IsOwnEvent who (event.Gone w) = w ≡ who

-- the subscriptions of the live queries are gone then
pub record Leaves (s t : Standing) : Type 0 where
  pub due : t.due ≡ s.due
  pub next : t.next ≡ s.next
  pub faults : s.faults ≤ t.faults
  pub none : t.subscriptions ≡ []

module _ (allows : List Header → HookAnswer → Type 0) (who : ℕ) where
  -- a message came and was answered, without a close
  pub record Turns (s t : Talk) (a b : Link) (m : In) : Type 0 where
    pub texts : List (List ℕ)
    pub received : Receives a.left b.left (Ok m)
    pub row : Row allows who (said_by m) s t texts None
    pub sent : Sends a.sent b.sent (map out.Text texts)

  -- the same with a close
  pub record ClosesWith (code : ℕ) (s t : Talk) (a b : Link) : Type 0 where
    pub message : In
    pub texts : List (List ℕ)
    pub mid : Option (List Out)
    pub received : Receives a.left b.left (Ok message)
    pub row : Row allows who (said_by message) s t texts (Some code)
    pub sent : Sends a.sent mid (map out.Text texts)
    pub closed : Sends mid b.sent (out.Close code ∷ [])

  -- messages that were answered, in order, without a close
  abbrev pub Ran : Talk → Talk → Link → Link → List In → Type 0
  Ran s t a b [] = (t ≡ s) × (b ≡ a)
  Ran s t a b (m ∷ messages) = (u : Talk) × (c : Link) × Turns s u a c m × Ran u t c b messages

  -- how a talk ends behind so many messages; behind a failed link, and where memory is wanted, a message may be answered in part
  abbrev pub Over : Talk → Talk → Link → Link → ℕ → TalkEnd → Type 0
  Over s t a b n end.Ended = (t ≡ s) × Receives a.left b.left (Ok came.Ended) × (b.sent ≡ a.sent)
  Over s t a b n (end.Closed code) = ClosesWith code s t a b
  Over s t a b n end.Spent = (n ≡ 10000) × (t ≡ s) × (b ≡ a)
  Over s t a b n end.LinkFault = ⊤
  Over s t a b n end.Memory = ⊤

  -- one turn: it goes on, or it is the end
  abbrev pub Turned : Talk → Talk → Link → Link → Option TalkEnd → Type 0
  Turned s t a b None = (m : In) × Turns s t a b m
  Turned s t a b (Some e) = Over s t a b 0 e × (e ≡ end.Spent → ⊥)

  pub record TalksUntil (s t : Talk) (a b : Link) (e : TalkEnd) : Type 0 where
    pub done : List In
    pub after : Talk
    pub mid : Link
    pub few : length done ≤ 10000
    pub ran : Ran s after a mid done
    pub over : Over after t mid b (length done) e

  -- a talk, from its beginning, at which it has no session and live queries without a subscription
  pub record Talks (live live' : Standing) (a b : Link) (e : TalkEnd) : Type 0 where
    pub last : Talk
    pub talks : TalksUntil (record { session = None; once = []; live = live }) last a b e
    pub leaves : Leaves last.live live'
