-- What is answered to the request for a copy.
use Rattle.std.specs.Prelude.{◌≡◌, ℕ, List, Option, Some, None, Result, Ok, Err, ⊤}
use Rattle.hq_copy_definition.specs.Copied.{Copied, copied}
use Rattle.hq_copy_definition.specs.Metadata.{copied_meta}
use Rattle.hq_copy_definition.specs.Refusals.{first_of, masked_key_refusal, or_else, own_name_refusal, schema_name_refusal, width_refusal}
use Rattle.hq_copy_definition.specs.Sources.{sources}
use Rattle.hq_copy_definition.specs.Tables.{copied_tables}
use Rattle.hq_copy_definition.specs.declared.refusal.CopyRefusal.{CopyRefusal}
use Rattle.hq_copy_definition.specs.declared.refusal.CopyRefusal.TheVariants as refusal
use Rattle.hq_io.specs.Causes.{Rose}
use Rattle.hq_copy.specs.declared.redacted.Redacted.{Redacted}
use Rattle.hq_model.specs.Database.{Row}
use Rattle.hq_model.specs.Grants.{grants_of}
use Rattle.hq_model.specs.Meta.{MetaTree, meta_view}
use Rattle.hq_model.specs.Schema.{Schema, schema_of}
use Rattle.hq_model.specs.View.{view}
use Rattle.hq_model.specs.declared.role.Role.{Role}
use Rattle.hq_model.specs.declared.session.Session.{Session}
use Rattle.hq_model.specs.declared.table.Table.{Table}

-- what a copy is seen as
abbrev pub redacted_view : Redacted → Copied
redacted_view r = record { tables = r.catalog.tables; meta = meta_view r.meta; rows = r.rows }

-- the copy of a database, or why there is none
abbrev pub copy_due : List Table → MetaTree → Session → List (List Row) → Result Copied CopyRefusal
copy_due tables m session d = copied tables m session (view (schema_of tables m) (grants_of session tables m) d)

-- ---- causes

-- why nothing was given, where nothing was
abbrev pub refusal_in : {X : Type 0} → Result X CopyRefusal → Option CopyRefusal
refusal_in (Ok x) = None
refusal_in (Err e) = Some e

-- the first cause that catalog and metadata tell: a name, a masked key, a table that is too wide
abbrev pub described_refusal : Role → MetaTree → Schema → Option CopyRefusal
described_refusal role m s =
    let os = sources role m in
    let z = schema_of (copied_tables role m s) (copied_meta role m s) in
    or_else (first_of (own_name_refusal role m s) os)
    (or_else (schema_name_refusal z (copied_meta role m s)) (or_else (first_of (masked_key_refusal role m s) os) (first_of (width_refusal role m s) os)))

-- ---- answers

-- The answer is what is due, but for want of memory and for a table that fails to be read.
abbrev pub Redacts : Result Copied CopyRefusal → Result Redacted CopyRefusal → Type 0
Redacts due (Ok r) = due ≡ Ok (redacted_view r)
Redacts due (Err refusal.Memory) = ⊤
Redacts due (Err (refusal.Failed before after)) = ⊤
Redacts due (Err e) = due ≡ Err e

-- a failure tells the counts of faults before and after, between which the count rose
abbrev pub TellsRise : (before now : ℕ) → CopyRefusal → Type 0
TellsRise before now (refusal.Failed b a) = (b ≡ before) × (a ≡ now) × Rose before now
TellsRise before now e = ⊤
