-- The rows of a copy are valid.
use Rattle.std.specs.Prelude.{◌≡◌, List, true, Ok}
use Rattle.hq_model.specs.Database.{Row, is_database}
use Rattle.hq_model.specs.Fits.{fits}
use Rattle.hq_model.specs.Grants.{grants_of}
use Rattle.hq_model.specs.Meta.{MetaTree}
use Rattle.hq_model.specs.Schema.{schema_of}
use Rattle.hq_model.specs.View.{view}
use Rattle.hq_model.specs.declared.session.Session.{Session}
use Rattle.hq_model.specs.declared.table.Table.{Table}
use Rattle.hq_copy_definition.specs.Copied.{Copied, copied}

-- made of the view of a valid database, its rows are valid
abbrev pub RowsFit : List Table → MetaTree → Session → List (List Row) → Copied → Type 0
RowsFit tables m session d c =
    fits tables m ≡ true → is_database tables d ≡ true → copied tables m session (view (schema_of tables m) (grants_of session tables m) d) ≡ Ok c → is_database c.tables c.rows ≡ true
