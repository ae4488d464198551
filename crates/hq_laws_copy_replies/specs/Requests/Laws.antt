-- A body asks a copy for what it asks the database for.
use Rattle.std.specs.Prelude.{◌≡◌, ℕ, List, length, true, Ok}
use Rattle.hq_request_tree.specs.Request.{AskTree}
use Rattle.hq_base.specs.Due.{mapped}
use Rattle.hq_request.specs.Request.{request_due}
use Rattle.hq_model.specs.Database.{Row}
use Rattle.hq_model.specs.Fits.{fits}
use Rattle.hq_model.specs.Grants.{grants_of}
use Rattle.hq_model.specs.Meta.{MetaTree}
use Rattle.hq_model.specs.Permission.{role_of}
use Rattle.hq_model.specs.Schema.{schema_of}
use Rattle.hq_model.specs.View.{View, view}
use Rattle.hq_model.specs.declared.session.Session.{Session}
use Rattle.hq_model.specs.declared.table.Table.{Table}
use Rattle.hq_copy_definition.specs.Copied.{Copied, copied}
use Rattle.hq_laws_copy.specs.Views.Laws.{numbers, reader_session}
use Rattle.hq_laws_renumbered.specs.Resolving.Renumbering.{fields_over}

-- the view that a session has of a database
abbrev pub session_view : List Table → MetaTree → Session → List (List Row) → View
session_view tables m session d = view (schema_of tables m) (grants_of session tables m) d

-- a body asks a copy, as its reader, for what it asks the database for, in the numbers of the copy; or it has the same first fault, at
-- the same place
abbrev pub RequestsRenumbered : List Table → MetaTree → Session → List (List Row) → Copied → (body : List ℕ) → Type 0
RequestsRenumbered tables m session d c body =
    let s = schema_of tables m in
    fits tables m ≡ true → copied tables m session (session_view tables m session d) ≡ Ok c
    → mapped (λ (a : AskTree). a.fields) (request_due c.tables c.meta reader_session body)
    ≡ mapped (λ (a : AskTree). fields_over a.fields s (numbers (role_of session.role) m s) (length tables)) (request_due tables m session body)
