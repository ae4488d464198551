-- Rows that are lent.
use Rattle.std.specs.Prelude.{List, [], Option, Some, None}
use Rattle.std.specs.Borrow.{Bor}
use Rattle.hq_model.specs.Database.{Row}

-- the rows that are lent, none where none are
abbrev pub rows_lent : Option (Bor (List Row)) → List Row
rows_lent None = []
rows_lent (Some rows) = rows.now
