-- What the text that `hq sql` writes is good for: it spells a statement that is well-formed for the catalog and confined for the
-- session, and means what is due.
use Rattle.std.specs.Prelude.{◌≡◌, ℕ, List, Ok}
use Rattle.hq_engine.specs.Statements.{HasStatement}
use Rattle.hq_load.specs.Loading.{Described}
use Rattle.hq_io.specs.declared.files.File.{File}
use Rattle.hq_request.specs.Request.{request_due}
use Rattle.hq_session.specs.Sessions.{session_of}
use Rattle.hq_session.specs.declared.header.Header.{Header}
use Rattle.hq_model.specs.Meta.{MetaTree}
use Rattle.hq_model.specs.declared.session.Session.{Session}
use Rattle.hq_model.specs.declared.table.Table.{Table}
use Rattle.hq_command.specs.Refusals.{description_of}

-- of what a text makes for a session
abbrev pub HasStatementFor : List Table → MetaTree → Session → (text : List ℕ) → Type 0
HasStatementFor tables meta session text = HasStatement tables meta session (request_due tables meta session text)

-- the same over what a directory describes
abbrev pub HasStatementOver : (dir : List ℕ) → List Header → List File → (text : List ℕ) → Type 0
HasStatementOver dir headers files text = (d : Described) → description_of dir files ≡ Ok d → HasStatementFor d.tables d.meta (session_of headers) text
