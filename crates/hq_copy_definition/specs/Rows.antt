-- The rows of a copy: the permitted ones in their order, with the cells that are shown and with the numbers that link them.
use Rattle.std.specs.Prelude.{ℕ, suc, pos, List, map, ◌++◌, Option, Some, None}
use Rattle.hq_base.specs.Cells.{CellTree, null, int, text, bool, json}
use Rattle.hq_base.specs.declared.value.Val.{Val}
use Rattle.hq_base.specs.declared.value.Val.TheVariants as val
use Rattle.hq_model.specs.Database.{Row}
use Rattle.hq_model.specs.Meta.{MetaTree}
use Rattle.hq_model.specs.Schema.{Schema}
use Rattle.hq_model.specs.Seen.{Sees}
use Rattle.hq_model.specs.View.{View, seen_in}
use Rattle.hq_model.specs.declared.role.Role.{Role}
use Rattle.hq_copy_definition.specs.Extras.{Extra, from_end, to_end, row_position, extras_of}
use Rattle.hq_copy_definition.specs.Links.{from_number, to_number}
use Rattle.hq_copy_definition.specs.Sources.{Source, sources, link_remote}

-- the value of a cell; a view has no cell of JSON
abbrev pub value_of : CellTree → Val
value_of null = val.Null
value_of (int n) = val.Int n
value_of (text s) = val.Text s
value_of (bool b) = val.Bool b
value_of (json j) = val.Null

-- a number as a value, NULL where there is none
abbrev pub number_value : Option ℕ → Val
number_value None = val.Null
number_value (Some n) = val.Int (pos n)

-- the value of an added column in the row at position i, counted from 0; S is what is seen in the view
abbrev pub extra_value : Schema → Sees ℕ → ℕ → Extra → Val
extra_value s S i (from_end k l) = number_value (from_number (S.linked l.table l.relationship) (S.rows (link_remote s l)) i)
extra_value s S i (to_end k l) = number_value (to_number (S.linked l.table l.relationship) (S.rows l.table) (S.rows (link_remote s l)) i)
extra_value s S i row_position = val.Int (pos (suc i))

-- the row at position i of table t of the original
abbrev pub copied_row : Role → MetaTree → Schema → Sees ℕ → Source → ℕ → Row
copied_row role m s S o i =
    map (λ c. value_of (S.cell o.entry.table i c)) o.permission.columns
    ++ map (extra_value s S i) (extras_of role m s o)

-- the rows of a table, in the order of the view
abbrev pub rows_of : Role → MetaTree → Schema → Sees ℕ → Source → List Row
rows_of role m s S o = map (copied_row role m s S o) (S.rows o.entry.table)

-- for each table of the copy its rows
abbrev pub copied_rows : Role → MetaTree → Schema → View → List (List Row)
copied_rows role m s v = map (rows_of role m s (seen_in v)) (sources role m)
