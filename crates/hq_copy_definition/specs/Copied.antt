-- A redacted copy: a catalog, a metadata and rows that show one role what a session sees of a database, and hold nothing else. It is
-- made of the catalog, the metadata, the session and its view: no database stands among them.
use Rattle.std.specs.Prelude.{List, Option, Some, None, Result, Ok, Err}
use Rattle.hq_model.specs.Database.{Row}
use Rattle.hq_model.specs.Meta.{MetaTree}
use Rattle.hq_model.specs.Permission.{role_of}
use Rattle.hq_model.specs.Schema.{schema_of}
use Rattle.hq_model.specs.View.{View, seen_in}
use Rattle.hq_model.specs.declared.session.Session.{Session}
use Rattle.hq_model.specs.declared.table.Table.{Table}
use Rattle.hq_copy_definition.specs.declared.refusal.CopyRefusal.{CopyRefusal}
use Rattle.hq_copy_definition.specs.Metadata.{copied_meta}
use Rattle.hq_copy_definition.specs.Refusals.{copy_refusal}
use Rattle.hq_copy_definition.specs.Rows.{copied_rows}
use Rattle.hq_copy_definition.specs.Tables.{copied_tables}

-- a copy
pub record Copied : Type 0 where
  pub tables : List Table
  pub meta : MetaTree
  pub rows : List (List Row)

-- its parts
abbrev pub copy_of : List Table → MetaTree → Session → View → Copied
copy_of tables m session v =
    let role = role_of session.role in
    let s = schema_of tables m in
    record { tables = copied_tables role m s; meta = copied_meta role m s; rows = copied_rows role m s v }

-- a value, where nothing refuses it
abbrev pub unless : {X : Type 0} → Option CopyRefusal → X → Result X CopyRefusal
unless None x = Ok x
unless (Some e) x = Err e

-- the copy, or why none is made
abbrev pub copied : List Table → MetaTree → Session → View → Result Copied CopyRefusal
copied tables m session v =
    unless (copy_refusal (role_of session.role) m (schema_of tables m) session.vars (seen_in v)) (copy_of tables m session v)
