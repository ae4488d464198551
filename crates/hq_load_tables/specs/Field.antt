-- A field of a table file, as a value of its column (PostgreSQL, COPY with FORMAT csv and NULL '\N').
use Rattle.std.specs.Prelude.{ℕ, List, Bool, Result, Ok, Err, bytes_eq, codes, if◌then◌else◌}
use Rattle.hq_base.specs.Due.{and_then}
use Rattle.hq_base.specs.Refused.{text_of}
use Rattle.hq_base.specs.declared.txt.TxtRefusal.{TxtRefusal}
use Rattle.hq_base.specs.declared.txt.TxtRefusal.TheVariants as txt
use Rattle.hq_base.specs.Uuids.{is_uuid_form}
use Rattle.hq_base.specs.declared.value.Ty.{Ty}
use Rattle.hq_base.specs.declared.value.Ty.TheVariants.{Uuid}
use Rattle.hq_base.specs.declared.value.Val.{Val}
use Rattle.hq_base.specs.declared.value.Val.TheVariants as val
use Rattle.hq_model.specs.Reading.{read_as}
use Rattle.hq_model.specs.declared.table.Column.{Column}
use Rattle.hq_model.specs.declared.want.Want.{Want}
use Rattle.hq_model.specs.declared.want.Want.TheVariants.{Boolean}
use Rattle.hq_load_tables.specs.declared.field.FieldRefusal.{FieldRefusal}
use Rattle.hq_load_tables.specs.declared.field.FieldRefusal.TheVariants.{NotUtf8, ZeroByte, NotInteger, NotBoolean, NotUuid, NullInNotNull, Memory}

-- the field that stands for NULL, in quotes or not
abbrev pub null_field : List ℕ
null_field = codes "\\N"

-- why a field is no text
abbrev pub field_refusal : TxtRefusal → FieldRefusal
field_refusal txt.NotUtf8 = NotUtf8
field_refusal txt.ZeroByte = ZeroByte
field_refusal txt.Memory = Memory

-- a text, or why the field is none
abbrev pub field_text : Result (List ℕ) TxtRefusal → Result (List ℕ) FieldRefusal
field_text (Ok s) = Ok s
field_text (Err e) = Err (field_refusal e)

-- NULL, where the column may hold it
abbrev pub null_due : (nullable : Bool) → Result Val FieldRefusal
null_due nullable = if nullable then Ok val.Null else Err NullInNotNull

-- why a text is no value, by what it is not
abbrev pub not_read : Want → FieldRefusal
not_read Boolean = NotBoolean
not_read _ = NotInteger

-- a value that was read
abbrev pub value_read : Result Val Want → Result Val FieldRefusal
value_read (Ok v) = Ok v
value_read (Err wanted) = Err (not_read wanted)

-- a uuid, which stands in its one form
abbrev pub uuid_due : List ℕ → Result Val FieldRefusal
uuid_due s = if is_uuid_form s then Ok (val.Text s) else Err NotUuid

-- a text as a value of the type; a text column takes it as it stands
abbrev pub typed_due : Ty → List ℕ → Result Val FieldRefusal
typed_due Uuid s = uuid_due s
typed_due ty s = value_read (read_as ty s)

-- a text as a value of the column: NULL, or a value of its type
abbrev pub value_due : Column → List ℕ → Result Val FieldRefusal
value_due c s = if bytes_eq s null_field then null_due c.nullable else typed_due c.ty s

-- the value of a field, or the first of the refusals: not UTF-8, a zero byte, then NULL or what is not of the type
abbrev pub field_due : Column → List ℕ → Result Val FieldRefusal
field_due c field = and_then (value_due c) (field_text (text_of field))
