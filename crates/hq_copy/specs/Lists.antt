-- Lists of rows that are lent.
use Rattle.std.specs.Prelude.{List, map}
use Rattle.std.specs.Borrow.{Bor}
use Rattle.std.specs.Global.{Vec}
use Rattle.hq_copy_filter.specs.Lent.{rows_of}
use Rattle.hq_model.specs.Database.{Row}

-- the rows of each
abbrev pub lists_of : List (Vec (Bor Row)) → List (List Row)
lists_of lists = map (λ rows. rows_of rows.items) lists
