-- A table file in two steps: first the rows of its records, and then their keys.
use Rattle.std.specs.Prelude.{◌≡◌, ℕ, ◌+◌, List, [], ◌∷◌, ◌++◌, length, Option, Some, None, Result, Ok, Err}
use Rattle.hq_base.specs.Due.{and_then}
use Rattle.hq_model.specs.Database.{Row, key_of}
use Rattle.hq_model.specs.declared.table.Column.{Column}
use Rattle.hq_model.specs.declared.table.Table.{Table}
use Rattle.hq_load_tables.specs.Header.{header_due}
use Rattle.hq_load_tables.specs.Load.{line_of_key, record_due, unless_repeated}
use Rattle.hq_load_tables.specs.declared.load.refusal.LoadRefusal.{LoadRefusal}

-- the row of a record before those of the later ones, or why it has none
abbrev pub next_read : (later : List Row × Option LoadRefusal) → Result Row LoadRefusal → List Row × Option LoadRefusal
next_read later (Ok row) = (row ∷ later.0, later.1)
next_read later (Err e) = ([], Some e)

-- the rows of the records, of which the first has this number, up to the first that has none, and why that one has none
abbrev pub rows_read : (line : ℕ) → Table → (names : List (List ℕ)) → List Column → List (List (List ℕ)) → List Row × Option LoadRefusal
rows_read line t names columns [] = ([], None)
rows_read line t names columns (r ∷ rs) = next_read (rows_read (line + 1) t names columns rs) (record_due line t names columns r)

-- the rows of the records behind a header that is the table's column names
pub record ReadsUnder (t : Table) (names : List (List ℕ)) (rest : List (List (List ℕ))) (rows : List Row) (refused : Option LoadRefusal) : Type 0 where
  pub columns : List Column
  pub header : header_due t.columns names ≡ Some columns
  pub read : rows_read 2 t names columns rest ≡ (rows, refused)

-- rows before those that were read
abbrev pub behind : List Row → List Row × Option LoadRefusal → List Row × Option LoadRefusal
behind rows later = (rows ++ later.0, later.1)

-- the rows, where the record behind them was not refused
abbrev pub unless_refused : List Row → Option LoadRefusal → Result (List Row) LoadRefusal
unless_refused rows None = Ok rows
unless_refused rows (Some e) = Err e

-- these rows and the rest, or the first row that has the key of an earlier one, or why the record behind them has no row
abbrev pub keys_due : Table → (rows rest : List Row) → Option LoadRefusal → Result (List Row) LoadRefusal
keys_due t rows [] refused = unless_refused rows refused
keys_due t rows (row ∷ rest) refused =
    and_then (λ row. keys_due t (rows ++ row ∷ []) rest refused) (unless_repeated (length rows + 2) row (line_of_key t rows (key_of t row)))
