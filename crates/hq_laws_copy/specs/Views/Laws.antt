-- A copy answers as the database does: for each request of a session, in the numbers of the copy, as its reader.
use Rattle.std.specs.Prelude.{◌≡◌, List, [], ◌∷◌, length, true, codes, Ok}
use Rattle.hq_model.specs.Database.{Row}
use Rattle.hq_model.specs.Fits.{fits}
use Rattle.hq_model.specs.Grants.{Grants, grants_of}
use Rattle.hq_model.specs.Meta.{MetaTree}
use Rattle.hq_model.specs.Permission.{permission, role_of}
use Rattle.hq_model.specs.Schema.{Schema, schema_of}
use Rattle.hq_model.specs.View.{Agree, view}
use Rattle.hq_model.specs.declared.role.Role.{Role}
use Rattle.hq_model.specs.declared.session.Session.{Session}
use Rattle.hq_model.specs.declared.table.Table.{Table}
use Rattle.hq_request_tree.specs.Allowed.{allowed_to, permitted_columns}
use Rattle.hq_request_tree.specs.Request.{AskTree}
use Rattle.hq_request_tree.specs.Resolve.{resolved}
use Rattle.hq_request_tree.specs.WellFormed.{IsRequest}
use Rattle.hq_copy_definition.specs.Copied.{Copied, copied}
use Rattle.hq_copy_definition.specs.Metadata.{reader}
use Rattle.hq_copy_definition.specs.Sources.{sources, table_place, place_in, kept_relationships}
use Rattle.hq_laws_renumbered.specs.Resolving.Renumbering.{IsOneToOne, Renumbering, fields_over}

-- the numbers of the copy for a role
abbrev pub numbers : Role → MetaTree → Schema → Renumbering
numbers role m s = record {
  table = table_place (sources role m);
  column = λ t c. place_in (permitted_columns (permission role m t)) c;
  relationship = λ t r. place_in (kept_relationships role m s t) r;
}

-- the session of the reader: its one variable is the role
abbrev pub reader_session : Session
reader_session = record { role = reader; vars = record { name = codes "x-hasura-role"; value = reader } ∷ [] }

-- what the reader is granted of a copy
abbrev pub reader_grants : Copied → Grants
reader_grants c = grants_of reader_session c.tables c.meta

-- a well-formed request of a session gives over a database what the renumbered request gives its reader over the copy of its view
abbrev pub CopyAnswers : List Table → MetaTree → Session → List (List Row) → AskTree → Copied → Type 0
CopyAnswers tables m session d a c =
    let s = schema_of tables m in
    let g = grants_of session tables m in
    fits tables m ≡ true → copied tables m session (view s g d) ≡ Ok c → a.role ≡ role_of session.role → IsRequest tables m a
    → resolved a.fields s g d ≡ resolved (fields_over a.fields s (numbers (role_of session.role) m s) (length s)) (schema_of c.tables c.meta) (reader_grants c) c.rows

-- the numbers of the copy are different ones, of what the role may use
abbrev pub NumbersDiffer : Role → MetaTree → Schema → Type 0
NumbersDiffer role m s = IsOneToOne (numbers role m s) (allowed_to role m s)

-- databases that a session cannot tell apart have one copy, or none for one cause
abbrev pub CopiesAgree : List Table → MetaTree → Session → (d e : List (List Row)) → Type 0
CopiesAgree tables m session d e =
    let s = schema_of tables m in
    let g = grants_of session tables m in
    Agree s g d e → copied tables m session (view s g d) ≡ copied tables m session (view s g e)
