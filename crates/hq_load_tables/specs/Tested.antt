-- Rows that are tested before they are taken as a table's.
use Rattle.std.specs.Prelude.{◌≡◌, ℕ, List, length, Option, Some, None, true, false}
use Rattle.hq_base.specs.declared.value.Val.{Val}
use Rattle.hq_load_index.specs.Chunks.{chunked}
use Rattle.hq_model.specs.Database.{Row, are_rows}
use Rattle.hq_model.specs.declared.table.Table.{Table}

-- so many rows of a table, whose values stand one after the other
abbrev pub rows_of_values : Table → (count : ℕ) → List Val → List Row
rows_of_values t count values = chunked (length t.columns) count values

-- the rows, exactly where they are valid for the table
abbrev pub TestsRows : Table → List Row → Option (List Row) → Type 0
TestsRows t rows None = are_rows t rows ≡ false
TestsRows t rows (Some kept) = (kept ≡ rows) × (are_rows t rows ≡ true)
