-- Worked runs: what one subscriber is sent, computed.
use Rattle.std.proofs.Common.{◌≡◌, ◌∷◌, [], ℕ, List, refl}
use Rattle.hq_model.specs.declared.session.Session.{Session}
use Rattle.hq_live.specs.Asking.{Due}
use Rattle.hq_live.specs.LiveRun.{Moment, live_run}
use Rattle.hq_live.specs.declared.event.Event.{Event}
use Rattle.hq_live.specs.declared.event.Event.TheVariants as event
use Rattle.hq_live.specs.declared.event.Sent.{Sent}
use Rattle.hq_live.specs.declared.event.What.TheVariants as what

-- a database over which one reply is due
over : List ℕ → Due
over reply session body = reply

at : Event → List ℕ → Moment
at e reply = record { event = e; due = over reply }

-- a reply to subscriber 1, under the name "a"
reply : List ℕ → Sent
reply text = record { who = 1; id = 97 ∷ []; what = what.Reply text }

-- a subscription is sent the reply, and again where another one is due: not at a tick over the same database, nor at the reload
-- itself, nor once it is completed
sent_where_it_differs : (session : Session) (body : List ℕ) → live_run
    (at (event.Subscribe 1 (97 ∷ []) session body) (66 ∷ [])
    ∷ at event.Tick (66 ∷ [])
    ∷ at event.Reload (66 ∷ [])
    ∷ at event.Tick (82 ∷ [])
    ∷ at (event.Complete 1 (97 ∷ [])) (82 ∷ [])
    ∷ at event.Tick (66 ∷ [])
    ∷ [])
    []
    ≡ reply (66 ∷ []) ∷ reply (82 ∷ []) ∷ []
unfolding at over reply
sent_where_it_differs session body = refl

-- a reload over which the same reply is due sends nothing at the next tick
not_sent_where_it_is_the_same : (session : Session) (body : List ℕ) → live_run
    (at (event.Subscribe 1 (97 ∷ []) session body) (66 ∷ []) ∷ at event.Reload (66 ∷ []) ∷ at event.Tick (66 ∷ []) ∷ [])
    []
    ≡ reply (66 ∷ []) ∷ []
unfolding at over reply
not_sent_where_it_is_the_same session body = refl

-- one of the same name stays where another's is completed
another_stays : (session : Session) (body : List ℕ) → live_run
    (at (event.Subscribe 1 (97 ∷ []) session body) (66 ∷ [])
    ∷ at (event.Complete 2 (97 ∷ [])) (66 ∷ [])
    ∷ at (event.Gone 2) (66 ∷ [])
    ∷ at event.Tick (82 ∷ [])
    ∷ [])
    []
    ≡ reply (66 ∷ []) ∷ reply (82 ∷ []) ∷ []
unfolding at over reply
another_stays session body = refl
