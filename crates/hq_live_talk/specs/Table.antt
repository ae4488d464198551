-- What follows each message of a talk: the talk afterwards, the texts that go out, and the code of a close. The first row that
-- fits a message decides.
use Rattle.std.specs.Prelude.{◌≡◌, ◌≤◌, ◌++◌, ◌∷◌, ◌||◌, [], ℕ, List, Bool, true, false, not, filter, bytes_eq, Option, None, Some, ◌⊎◌, if◌then◌else◌}
use Rattle.std.specs.List.{list_any}
use Rattle.hq_base.specs.Body.{body_of}
use Rattle.hq_model.specs.declared.session.Session.{Session}
use Rattle.hq_session.specs.declared.header.Header.{Header}
use Rattle.hq_session.specs.declared.hook.HookAnswer.{HookAnswer}
use Rattle.hq_session.specs.declared.hook.HookAnswer.TheVariants as answer
use Rattle.hq_live.specs.Asking.{RoseWithin}
use Rattle.hq_live.specs.Steps.{is_of, is_repeated, IsTooMany}
use Rattle.hq_live.specs.Runs.{Standing, Passes, Stays}
use Rattle.hq_live.specs.declared.event.Subscription.{Subscription}
use Rattle.hq_live.specs.declared.event.Event.{Event}
use Rattle.hq_live.specs.declared.event.Event.TheVariants as event
use Rattle.hq_live.specs.declared.event.Sent.{Sent}
use Rattle.hq_live.specs.declared.event.What.{What}
use Rattle.hq_live.specs.declared.event.What.TheVariants as what
use Rattle.hq_messages.specs.declared.messages.In.{In}
use Rattle.hq_messages.specs.declared.messages.In.TheVariants as came
use Rattle.hq_live_talk.specs.Reading.{said_of}
use Rattle.hq_live_talk.specs.Texts.{tells_fault, errors_in, next_text, error_text, complete_text, ack_text, pong_text, too_many_errors}
use Rattle.hq_live_talk.specs.declared.said.Said.{Said}
use Rattle.hq_live_talk.specs.declared.said.Said.TheVariants as said

-- a talk: the session, once there is one; the names of the subscriptions that are answered once and were not yet; and where the
-- live queries stand
pub record Talk : Type 0 where
  pub session : Option Session
  pub once : List (List ℕ)
  pub live : Standing

abbrev pub talk_of : Option Session → (once : List (List ℕ)) → Standing → Talk
talk_of session once live = record { session = session; once = once; live = live }

-- whether the subscription of this name is answered once
abbrev pub is_once : (once : List (List ℕ)) → (id : List ℕ) → Bool
is_once once id = list_any (λ name. bytes_eq name id) once

-- whether a subscription is over behind what it is sent: a fault, or its one answer
abbrev pub is_over : (once : List (List ℕ)) → (id : List ℕ) → What → Bool
is_over once id (what.Reply reply) = tells_fault reply || is_once once id
is_over once id (what.Missed before after) = false

-- the texts for what a subscription is sent; a miss is not told
abbrev pub reply_texts : (once : List (List ℕ)) → (id reply : List ℕ) → List (List ℕ)
reply_texts once id reply =
    if tells_fault reply then error_text id (errors_in reply) ∷ []
    else (if is_once once id then next_text id reply ∷ complete_text id ∷ [] else next_text id reply ∷ [])

abbrev pub texts_for : (once : List (List ℕ)) → (id : List ℕ) → What → List (List ℕ)
texts_for once id (what.Reply reply) = reply_texts once id reply
texts_for once id (what.Missed before after) = []

-- without this name
abbrev pub without : (id : List ℕ) → List (List ℕ) → List (List ℕ)
without id once = filter (λ name. not (bytes_eq name id)) once

abbrev pub once_after : (once : List (List ℕ)) → Sent → List (List ℕ)
once_after once x = if is_over once x.id x.what then without x.id once else once

-- a subscription that is over is ended
abbrev pub subscriptions_after : (who : ℕ) → (once : List (List ℕ)) → Sent → List Subscription → List Subscription
subscriptions_after who once x subs = if is_over once x.id x.what then filter (λ s. not (is_of who x.id s)) subs else subs

-- the same for all that is sent, in order
abbrev pub told_texts : (once : List (List ℕ)) → List Sent → List (List ℕ)
told_texts once [] = []
told_texts once (x ∷ sends) = texts_for once x.id x.what ++ told_texts (once_after once x) sends

abbrev pub told_once : (once : List (List ℕ)) → List Sent → List (List ℕ)
told_once once [] = once
told_once once (x ∷ sends) = told_once (once_after once x) sends

abbrev pub told_subscriptions : (who : ℕ) → (once : List (List ℕ)) → List Sent → List Subscription → List Subscription
told_subscriptions who once [] subs = subs
told_subscriptions who once (x ∷ sends) subs = told_subscriptions who (once_after once x) sends (subscriptions_after who once x subs)

-- nothing has changed, but that the asker may have failed
pub record Same (s t : Talk) : Type 0 where
  pub session : t.session ≡ s.session
  pub once : t.once ≡ s.once
  pub live : Stays s.live t.live

-- all that was sent was told, and what is over was ended
pub record Tells (who : ℕ) (caller : Option Session) (names : List (List ℕ)) (mid : Standing) (sends : List Sent) (t : Talk) : Type 0 where
  pub session : t.session ≡ caller
  pub once : t.once ≡ told_once names sends
  pub due : t.live.due ≡ mid.due
  pub next : t.live.next ≡ mid.next
  pub faults : mid.faults ≤ t.live.faults
  pub subscriptions : t.live.subscriptions ≡ told_subscriptions who names sends mid.subscriptions

-- these texts, and no close
abbrev pub Says : List (List ℕ) → Talk → Talk → List (List ℕ) → Option ℕ → Type 0
Says due s t texts code = Same s t × (texts ≡ due) × (code ≡ None)

-- a close with this code
abbrev pub Closes : ℕ → Talk → Talk → List (List ℕ) → Option ℕ → Type 0
Closes due s t texts code = Same s t × (texts ≡ []) × (code ≡ Some due)

-- what a hook has answered: the session is kept
abbrev pub Hooked : HookAnswer → Talk → Talk → List (List ℕ) → Option ℕ → Type 0
Hooked (answer.Session session) s t texts code = (t ≡ record s { session = Some session }) × (texts ≡ ack_text ∷ []) × (code ≡ None)
Hooked answer.Denied s t texts code = Closes 4403 s t texts code
Hooked answer.Memory s t texts code = ⊥

-- the names of the subscriptions that are answered once, with a new one that does not last
abbrev pub once_with : (is_lasting : Bool) → (id : List ℕ) → List (List ℕ) → List (List ℕ)
once_with true id once = once
once_with false id once = once ++ id ∷ []

-- a database was taken, or it was not and the asker has failed
abbrev pub Reloads : Standing → Standing → Type 0
Reloads s t = Passes event.Reload s t [] ⊎ (Stays s t × ((before : ℕ) × (after : ℕ) × RoseWithin s.faults t.faults before after))

-- the first `connection_init`, and a further one
abbrev pub Inits : (allows : List Header → HookAnswer → Type 0) → List Header → Option Session → Talk → Talk → List (List ℕ) → Option ℕ → Type 0
Inits allows headers None s t texts code = (a : HookAnswer) × allows headers a × Hooked a s t texts code
Inits allows headers (Some session) s t texts code = Closes 4429 s t texts code

-- `subscribe` with a session: the subscription begins and is answered, or it is there, or there are too many
abbrev pub Begins : (who : ℕ) → (id : List ℕ) → (once : List (List ℕ)) → Event → Talk → Talk → List (List ℕ) → Option ℕ → Type 0
Begins who id once e s t texts code =
    ((mid : Standing) × (sends : List Sent) × Passes e s.live mid sends × Tells who s.session once mid sends t
    × (texts ≡ told_texts once sends) × (code ≡ None))
    ⊎ ((is_repeated e s.live.subscriptions ≡ true) × Closes 4409 s t texts code)
    ⊎ ((is_repeated e s.live.subscriptions ≡ false) × IsTooMany e s.live.subscriptions × Says (error_text id too_many_errors ∷ []) s t texts code)

abbrev pub Subscribes : (who : ℕ) → (id body : List ℕ) → (is_lasting : Bool) → Option Session → Talk → Talk → List (List ℕ) → Option ℕ → Type 0
Subscribes who id body is_lasting None s t texts code = Closes 4401 s t texts code
Subscribes who id body is_lasting (Some session) s t texts code = Begins who id (once_with is_lasting id s.once) (event.Subscribe who id session body) s t texts code

-- `ping`: with a session the next database is taken, and all subscriptions are asked
abbrev pub Pings : (who : ℕ) → Option Session → Talk → Talk → List (List ℕ) → Option ℕ → Type 0
Pings who None s t texts code = Says (pong_text ∷ []) s t texts code
Pings who (Some session) s t texts code =
    (new : Standing) × (mid : Standing) × (sends : List Sent) × Reloads s.live new × Passes event.Tick new mid sends
    × Tells who s.session s.once mid sends t × (texts ≡ pong_text ∷ told_texts s.once sends) × (code ≡ None)

-- `complete`: the subscription ends
abbrev pub Completes : (who : ℕ) → (id : List ℕ) → Talk → Talk → List (List ℕ) → Option ℕ → Type 0
Completes who id s t texts code =
    (t.session ≡ s.session) × (t.once ≡ without id s.once) × Passes (event.Complete who id) s.live t.live [] × (texts ≡ []) × (code ≡ None)

-- a message of another form closes, with one code before there is a session and with another behind that
abbrev pub Refuses : Option Session → (before behind : ℕ) → Talk → Talk → List (List ℕ) → Option ℕ → Type 0
Refuses None before behind s t texts code = Closes before s t texts code
Refuses (Some session) before behind s t texts code = Closes behind s t texts code

-- the table
abbrev pub Row : (allows : List Header → HookAnswer → Type 0) → (who : ℕ) → Said → Talk → Talk → List (List ℕ) → Option ℕ → Type 0
Row allows who (said.Init headers) s t texts code = Inits allows headers s.session s t texts code
Row allows who said.BadInit s t texts code = Refuses s.session 4400 4429 s t texts code
Row allows who (said.Subscribe id body is_lasting) s t texts code = Subscribes who id body is_lasting s.session s t texts code
Row allows who said.BadSubscribe s t texts code = Refuses s.session 4401 4400 s t texts code
Row allows who said.Ping s t texts code = Pings who s.session s t texts code
Row allows who said.Pong s t texts code = Says [] s t texts code
Row allows who (said.Complete id) s t texts code = Completes who id s t texts code
Row allows who said.Bad s t texts code = Closes 4400 s t texts code

-- what a message says
abbrev pub said_by : In → Said
said_by (came.Text text) = said_of (body_of text)
said_by came.Idle = said.Pong
said_by came.Other = said.Bad
said_by came.Ended = said.Bad
