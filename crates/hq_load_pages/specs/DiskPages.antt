-- The bytes of a disk that has the rows of all tables.
use Rattle.std.specs.Prelude.{◌≡◌, ℕ, zero, suc, ◌-◌, List, [], ◌∷◌, ◌++◌, length, take, drop, flat_map, replicate}
use Rattle.std.specs.declared.option.Option.{Option}
use Rattle.std.specs.declared.option.Option.TheVariants.{Some}
use Rattle.hq_model.specs.Database.{Row}
use Rattle.hq_load_pages.specs.Held.{WhereTold}
use Rattle.hq_load_pages.specs.Pages.{header_bytes}
use Rattle.hq_load_pages.specs.Runs.{run_of}

-- the page of a piece
abbrev pub page_bytes : (table piece : ℕ) → List ℕ → List ℕ
page_bytes table piece bytes = header_bytes table piece (length bytes) ++ bytes ++ replicate (4086 - length bytes) 0

-- the pages of the pieces of 4,086 bytes, of which the last is shorter, from the one of this number on; `most` is at least
-- how many there are
abbrev pub pages_from : (table piece most : ℕ) → List ℕ → List ℕ
pages_from table piece zero bytes = []
pages_from table piece (suc most) [] = []
pages_from table piece (suc most) (b ∷ bytes) = page_bytes table piece (take 4086 (b ∷ bytes)) ++ pages_from table (suc piece) most (drop 4086 (b ∷ bytes))

-- the pages of a run
abbrev pub run_pages : (table : ℕ) → List ℕ → List ℕ
run_pages table bytes = pages_from table 0 (length bytes) bytes

-- the bytes of rows: their cells, row behind row
abbrev pub rows_bytes : List Row → List ℕ
rows_bytes rows = run_of (flat_map (λ row. row) rows)

-- the pages of all tables from the one of this number on, table behind table
abbrev pub disk_pages : (table : ℕ) → List (List Row) → List ℕ
disk_pages table [] = []
disk_pages table (rows ∷ all) = run_pages table (rows_bytes rows) ++ disk_pages (suc table) all

-- the disk has these pages behind what it had
abbrev pub Grows : (old new : Option (List ℕ)) → (pages : List ℕ) → Type 0
Grows old new pages = WhereTold new (λ held. (before : List ℕ) × (old ≡ Some before) × (held ≡ before ++ pages))
