-- Two worlds (Hasura, Authorization: row and column permissions).
use Rattle.std.specs.Prelude.{◌≡◌, ℕ, List, true}
use Rattle.hq_model.specs.Catalog.{is_catalog}
use Rattle.hq_model.specs.Database.{Row}
use Rattle.hq_model.specs.Fits.{fits}
use Rattle.hq_model.specs.Grants.{grants_of}
use Rattle.hq_model.specs.Meta.{MetaTree}
use Rattle.hq_model.specs.Schema.{schema_of}
use Rattle.hq_model.specs.View.{Agree}
use Rattle.hq_model.specs.declared.session.Session.{Session}
use Rattle.hq_model.specs.declared.table.Table.{Table}
use Rattle.hq_engine.specs.Replies.{due_reply}

-- over two databases that a session cannot tell apart, the same reply is due
abbrev pub RepliesAgree : List Table → MetaTree → Session → (body : List ℕ) → (d e : List (List Row)) → Type 0
RepliesAgree tables meta session body d e =
    is_catalog tables ≡ true → fits tables meta ≡ true → Agree (schema_of tables meta) (grants_of session tables meta) d e
    → due_reply tables meta session d body ≡ due_reply tables meta session e body
