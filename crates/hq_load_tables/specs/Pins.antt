-- Sets of tables.
use Rattle.std.specs.Prelude.{ℕ, List, Bool, false, slice_index_or}

-- the table is in the set, which has a mark for each table
abbrev pub contains : List Bool → ℕ → Bool
contains marks t = slice_index_or marks t false
