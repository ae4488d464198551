-- Rows and tables that are lent.
use Rattle.std.specs.Prelude.{List, [], map, Option, Some, None}
use Rattle.std.specs.Borrow.{Bor}
use Rattle.hq_model.specs.Database.{Row}

-- the database of tables that are lent
abbrev pub database_of : List (Bor (List Row)) → List (List Row)
database_of tables = map (λ rows. rows.now) tables

-- the rows that are lent
abbrev pub rows_of : List (Bor Row) → List Row
rows_of rows = map (λ row. row.now) rows

-- the rows of a table, none where none are lent
abbrev pub rows_lent : Option (Bor (List Row)) → List Row
rows_lent None = []
rows_lent (Some rows) = rows.now
