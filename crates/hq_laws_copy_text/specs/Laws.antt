-- What is read of the parts of a copy.
use Rattle.std.specs.Prelude.{◌≡◌, ℕ, List, true, Some, Ok, slice_get, codes}
use Rattle.hq_copy_definition.specs.Copied.{Copied, copied}
use Rattle.hq_copy_text.specs.Parts.{part_due}
use Rattle.hq_copy_text.specs.Clean.{IsClean}
use Rattle.hq_load_catalog.specs.Reading.{catalog_due}
use Rattle.hq_load_meta.specs.Reading.{meta_due}
use Rattle.hq_load_tables.specs.Load.{table_due}
use Rattle.hq_model.specs.Catalog.{full_name, is_catalog}
use Rattle.hq_model.specs.Database.{Row, is_database}
use Rattle.hq_model.specs.Fits.{fits}
use Rattle.hq_model.specs.Grants.{grants_of}
use Rattle.hq_model.specs.Meta.{MetaTree}
use Rattle.hq_model.specs.Schema.{schema_of}
use Rattle.hq_model.specs.View.{view}
use Rattle.hq_model.specs.declared.session.Session.{Session}
use Rattle.hq_model.specs.declared.table.Table.{Table}

-- the text of the part of this name is read as what the copy holds: its tables, its metadata, or the rows of a table
pub record ReadsBack (c : Copied) (name text : List ℕ) : Type 0 where
  pub catalog : name ≡ codes "catalog" → catalog_due text ≡ Ok c.tables
  pub metadata : name ≡ codes "metadata" → meta_due c.tables text ≡ Ok c.meta
  pub table : (i : ℕ) (t : Table) (rows : List Row) → slice_get c.tables i ≡ Some t → slice_get c.rows i ≡ Some rows → full_name t ≡ name → table_due t text ≡ Ok rows

-- so is each part of the copy of a valid database
abbrev pub PartReadsBack : List Table → MetaTree → Session → List (List Row) → Copied → (name text : List ℕ) → Type 0
PartReadsBack tables m session d c name text =
    is_catalog tables ≡ true → fits tables m ≡ true → is_database tables d ≡ true
    → copied tables m session (view (schema_of tables m) (grants_of session tables m) d) ≡ Ok c
    → IsClean c → part_due c name ≡ Ok text → ReadsBack c name text
