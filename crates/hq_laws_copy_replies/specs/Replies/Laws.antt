-- A copy replies to every body as the database does.
use Rattle.std.specs.Prelude.{◌≡◌, ℕ, List, true, Ok}
use Rattle.hq_engine.specs.Replies.{due_reply}
use Rattle.hq_model.specs.Catalog.{is_catalog}
use Rattle.hq_model.specs.Database.{Row}
use Rattle.hq_model.specs.Fits.{fits}
use Rattle.hq_model.specs.Meta.{MetaTree}
use Rattle.hq_model.specs.declared.session.Session.{Session}
use Rattle.hq_model.specs.declared.table.Table.{Table}
use Rattle.hq_copy_definition.specs.Copied.{Copied, copied}
use Rattle.hq_laws_copy_replies.specs.Requests.Laws.{session_view}
use Rattle.hq_laws_copy.specs.Views.Laws.{reader_session}

-- the reply that is due to a copy's reader is the one that is due to the session over the database
abbrev pub RepliesAlike : List Table → MetaTree → Session → List (List Row) → Copied → (body : List ℕ) → Type 0
RepliesAlike tables m session d c body =
    is_catalog tables ≡ true → fits tables m ≡ true → copied tables m session (session_view tables m session d) ≡ Ok c
    → due_reply c.tables c.meta reader_session c.rows body ≡ due_reply tables m session d body
