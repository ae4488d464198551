-- Live queries over the databases of a catalog and a metadata (Hasura, Authorization: row and column permissions).
use Rattle.std.specs.Prelude.{◌≡◌, ℕ, List, [], ◌∷◌, Option, None, Some, true, filter, map, ⊤}
use Rattle.hq_model.specs.Catalog.{is_catalog}
use Rattle.hq_model.specs.Database.{Row}
use Rattle.hq_model.specs.Fits.{fits}
use Rattle.hq_model.specs.Grants.{grants_of}
use Rattle.hq_model.specs.Meta.{MetaTree}
use Rattle.hq_model.specs.Schema.{schema_of}
use Rattle.hq_model.specs.View.{Agree}
use Rattle.hq_model.specs.declared.session.Session.{Session}
use Rattle.hq_model.specs.declared.table.Table.{Table}
use Rattle.hq_engine.specs.Replies.{due_reply}
use Rattle.hq_live.specs.Asking.{Due}
use Rattle.hq_live.specs.LiveRun.{Moment, live_run, is_to, concerns, sessions_of}
use Rattle.hq_live.specs.declared.event.Event.{Event}

-- an event, and the rows of the database that is present at it
pub record Present : Type 0 where
  pub event : Event
  pub rows : List (List Row)

-- the text of a reply that is due
abbrev pub text_of : Option (List ℕ) → List ℕ
text_of None = []
text_of (Some text) = text

-- a database, told as the replies that are due over it
abbrev pub due_over : List Table → MetaTree → List (List Row) → Due
due_over tables meta d session body = text_of (due_reply tables meta session d body)

abbrev pub moment : List Table → MetaTree → Present → Moment
moment tables meta p = record { event = p.event; due = due_over tables meta p.rows }

abbrev pub moments : List Table → MetaTree → List Present → List Moment
moments tables meta ps = map (moment tables meta) ps

-- those of a subscriber's own events, of the ticks and of the reloads
abbrev pub presents_of : (who : ℕ) → List Present → List Present
presents_of who ps = filter (λ p. concerns who p.event) ps

-- two databases agree for each of these sessions
abbrev pub AgreeForEach : List Table → MetaTree → List Session → (d e : List (List Row)) → Type 0
AgreeForEach tables meta [] d e = ⊤
AgreeForEach tables meta (session ∷ sessions) d e =
    Agree (schema_of tables meta) (grants_of session tables meta) d e × AgreeForEach tables meta sessions d e

-- the same events, over databases that agree for each of these sessions, event by event
abbrev pub AgreeAtEach : List Table → MetaTree → List Session → List Present → List Present → Type 0
AgreeAtEach tables meta sessions [] [] = ⊤
AgreeAtEach tables meta sessions [] (q ∷ qs) = ⊥
AgreeAtEach tables meta sessions (p ∷ ps) [] = ⊥
AgreeAtEach tables meta sessions (p ∷ ps) (q ∷ qs) =
    (q.event ≡ p.event) × AgreeForEach tables meta sessions p.rows q.rows × AgreeAtEach tables meta sessions ps qs

-- his own events, the ticks and the reloads are the same, over databases that agree, event by event, for each of his sessions
abbrev pub AgreeFor : List Table → MetaTree → (who : ℕ) → List Present → List Present → Type 0
AgreeFor tables meta who ps qs =
    AgreeAtEach tables meta (sessions_of (moments tables meta (presents_of who ps))) (presents_of who ps) (presents_of who qs)

-- over them he is sent the same
abbrev pub SendsTheSame : List Table → MetaTree → (who : ℕ) → List Present → List Present → Type 0
SendsTheSame tables meta who ps qs =
    is_catalog tables ≡ true → fits tables meta ≡ true → AgreeFor tables meta who ps qs
    → filter (is_to who) (live_run (moments tables meta ps) []) ≡ filter (is_to who) (live_run (moments tables meta qs) [])
