-- The tables that are pinned, each with its rows.
use Rattle.std.specs.Prelude.{◌≡◌, ℕ, List, [], Bool, true, slice_get, slice_index_or, is_some}
use Rattle.std.specs.declared.option.Option.{Option}
use Rattle.std.specs.declared.option.Option.TheVariants.{None, Some}
use Rattle.hq_model.specs.Database.{Row, are_rows}
use Rattle.hq_model.specs.declared.table.Table.{Table}

-- the rows of a table, where it is pinned
abbrev pub pin_at : List (Option (List Row)) → ℕ → Option (List Row)
pin_at pins t = slice_index_or pins t None

-- whether it is pinned
abbrev pub is_pinned : List (Option (List Row)) → ℕ → Bool
is_pinned pins t = is_some (pin_at pins t)

-- the rows of a table, where there are some
abbrev pub rows_or_none : Option (List Row) → List Row
rows_or_none None = []
rows_or_none (Some rows) = rows

-- the rows that are read of a pinned table
abbrev pub pinned_rows : List (Option (List Row)) → ℕ → List Row
pinned_rows pins t = rows_or_none (pin_at pins t)

-- the rows of each pinned table are valid for it
abbrev pub PinsFit : List Table → List (Option (List Row)) → Type 0
PinsFit tables pins = (t : ℕ) (table : Table) (rows : List Row) → slice_get tables t ≡ Some table → pin_at pins t ≡ Some rows → are_rows table rows ≡ true

-- and are those of a database
abbrev pub PinsOf : Option (List (List Row)) → List (Option (List Row)) → Type 0
PinsOf read pins = (all : List (List Row)) (t : ℕ) (rows : List Row) → read ≡ Some all → pin_at pins t ≡ Some rows → rows ≡ slice_index_or all t []
