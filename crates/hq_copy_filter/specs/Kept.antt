-- Rows that a filter keeps, over all of a database.
use Rattle.std.specs.Prelude.{ℕ, List, filter, Bool, ◌&&◌}
use Rattle.std.specs.List.{list_any}
use Rattle.hq_model.specs.Bexp.{BexpTree}
use Rattle.hq_model.specs.Database.{Row}
use Rattle.hq_model.specs.Logic.{is_true}
use Rattle.hq_model.specs.Schema.{Schema}
use Rattle.hq_model.specs.Seen.{all_of, linked_by, table_rows}
use Rattle.hq_model.specs.Truth.{keeps, truth}
use Rattle.hq_model.specs.declared.meta.Pair.{Pair}

-- a row of table u is linked to a row by these pairs, and meets an expression
abbrev pub is_met : BexpTree → Schema → List (List Row) → ℕ → List Pair → Row → (far : Row) → Bool
is_met b s d u ps row far = linked_by ps row far && is_true (truth b s (all_of s d) u far)

-- some row of the table is
abbrev pub some_kept : BexpTree → Schema → List (List Row) → ℕ → List Pair → Row → Bool
some_kept b s d u ps row = list_any (is_met b s d u ps row) (table_rows d u)

-- those of some rows of a table that meet an expression
abbrev pub kept_rows : BexpTree → Schema → List (List Row) → ℕ → List Row → List Row
kept_rows b s d t rows = filter (keeps b s (all_of s d) t) rows
