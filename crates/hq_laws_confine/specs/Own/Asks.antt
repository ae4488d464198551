-- What hq asks a database for a session shows no more than the session's view.
use Rattle.std.specs.Prelude.{◌≡◌, List, true}
use Rattle.hq_model.specs.Catalog.{is_catalog}
use Rattle.hq_model.specs.Fits.{fits}
use Rattle.hq_model.specs.Grants.{grants_of}
use Rattle.hq_model.specs.Meta.{MetaTree}
use Rattle.hq_model.specs.Schema.{schema_of}
use Rattle.hq_model.specs.declared.session.Session.{Session}
use Rattle.hq_model.specs.declared.table.Table.{Table}
use Rattle.hq_request_tree.specs.Request.{AskTree}
use Rattle.hq_request_tree.specs.Sessions.{IsFor}
use Rattle.hq_request_tree.specs.WellFormed.{IsRequest}
use Rattle.hq_translation.specs.Asked.{asked_statement, IsHeld}
use Rattle.hq_confine_rules.specs.Faults.{IsConfined}

-- the statement of a typed request is confined for a session
abbrev pub IsAskedConfined : List Table → MetaTree → Session → AskTree → Type 0
IsAskedConfined tables m session a = IsConfined (schema_of tables m) (grants_of session tables m) (asked_statement tables m a)

-- The statement of a well-formed typed request of a session is confined for the session, whatever the request asks.
abbrev pub AsksAreConfined : List Table → MetaTree → Session → AskTree → Type 0
AsksAreConfined tables m session a =
    is_catalog tables ≡ true → fits tables m ≡ true → IsRequest tables m a → IsFor (schema_of tables m) m session a → IsHeld tables m a → IsAskedConfined tables m session a
