-- What a body makes for a session is a typed request of it.
use Rattle.std.specs.Prelude.{◌≡◌, ℕ, List, true, Ok}
use Rattle.hq_request_tree.specs.Sessions.{IsFor}
use Rattle.hq_request_tree.specs.WellFormed.{IsRequest}
use Rattle.hq_request_tree.specs.Request.{AskTree}
use Rattle.hq_request.specs.Request.{request_due}
use Rattle.hq_model.specs.Catalog.{is_catalog}
use Rattle.hq_model.specs.Fits.{fits}
use Rattle.hq_model.specs.Meta.{MetaTree}
use Rattle.hq_model.specs.Schema.{schema_of}
use Rattle.hq_model.specs.declared.session.Session.{Session}
use Rattle.hq_model.specs.declared.table.Table.{Table}

-- a typed request of a session: it is well-formed, and it grants what the session is granted
pub record IsOfSession (tables : List Table) (meta : MetaTree) (session : Session) (ask : AskTree) : Type 0 where
  pub formed : IsRequest tables meta ask
  pub granted : IsFor (schema_of tables meta) meta session ask

-- the typed request of a body is one
abbrev pub MakesFormed : List Table → MetaTree → Session → (body : List ℕ) → AskTree → Type 0
MakesFormed tables meta session body ask = is_catalog tables ≡ true → fits tables meta ≡ true → request_due tables meta session body ≡ Ok ask → IsOfSession tables meta session ask
