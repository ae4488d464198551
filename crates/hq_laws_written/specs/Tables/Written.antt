-- A table file as csv's writer writes it by its defaults (PostgreSQL, COPY TO with FORMAT csv, HEADER and NULL '\N'), and the
-- tables whose files are read back.
use Rattle.std.specs.Prelude.{◌≡◌, ℕ, ◌<◌, List, [], ◌∷◌, length, map, flat_map, Bool, true, false, not, ◌&&◌, if◌then◌else◌, bytes_eq, codes}
use Rattle.std.specs.Fmt.{signed_decimal}
use Rattle.std.specs.List.{list_all}
use Rattle.std.specs.Str.{is_utf8}
use Rattle.csv.specs.Reading.{is_bom}
use Rattle.csv.specs.Writing.{default_writer, row_text}
use Rattle.hq_base.specs.Text.{has_zero}
use Rattle.hq_base.specs.declared.value.Val.{Val}
use Rattle.hq_base.specs.declared.value.Val.TheVariants as val
use Rattle.hq_model.specs.Database.{Row, are_rows}
use Rattle.hq_model.specs.declared.table.Column.{Column}
use Rattle.hq_model.specs.declared.table.Table.{Table}
use Rattle.hq_load_tables.specs.Field.{null_field}
use Rattle.hq_load_tables.specs.Header.{names_differ}

-- the field of a value
abbrev pub field_of : Val → List ℕ
field_of val.Null = null_field
field_of (val.Int n) = signed_decimal n
field_of (val.Text s) = s
field_of (val.Bool b) = if b then codes "t" else codes "f"

-- the records of a file: the columns' names, and then the fields of each row
abbrev pub records_of : Table → List Row → List (List (List ℕ))
records_of t rows = map (λ c. c.name) t.columns ∷ map (map field_of) rows

-- the file: its records, one after another
abbrev pub file_of : Table → List Row → List ℕ
file_of t rows = flat_map (row_text default_writer) (records_of t rows)

-- a text that a field holds as it stands: UTF-8 without a zero byte, and not what stands for NULL
abbrev pub is_plain : Val → Bool
is_plain (val.Text s) = is_utf8 s && (not (has_zero s) && not (bytes_eq s null_field))
is_plain _ = true

-- the text begins with U+FEFF, which csv takes away at a file's front
abbrev pub begins_with_mark : List ℕ → Bool
begins_with_mark (a ∷ b ∷ c ∷ rest) = is_bom a b c
begins_with_mark _ = false

-- the name of the first column
abbrev pub first_name : List Column → List ℕ
first_name [] = []
first_name (c ∷ cs) = c.name

-- the file of these rows can be read back
pub record IsWritable (t : Table) (rows : List Row) : Type 0 where
  pub some : 0 < length t.columns
  pub differ : names_differ t.columns ≡ true
  pub valid : are_rows t rows ≡ true
  pub plain : list_all (list_all is_plain) rows ≡ true
  pub unmarked : begins_with_mark (first_name t.columns) ≡ false
