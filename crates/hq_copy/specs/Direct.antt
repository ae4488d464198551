-- The rows of a copy, made of the permitted rows themselves.
use Rattle.std.specs.Prelude.{ℕ, suc, pos, List, [], ◌∷◌, map, ◌++◌, slice_index_or}
use Rattle.hq_base.specs.declared.value.Val.{Val}
use Rattle.hq_base.specs.declared.value.Val.TheVariants as val
use Rattle.hq_copy_definition.specs.Extras.{Extra, from_end, to_end, row_position, extras_of}
use Rattle.hq_copy_definition.specs.Links.{first_from, from_number}
use Rattle.hq_copy_definition.specs.Rows.{number_value, value_of}
use Rattle.hq_copy_definition.specs.Sources.{Source, link_remote, table_place}
use Rattle.hq_model.specs.Database.{Row}
use Rattle.hq_model.specs.Meta.{MetaTree}
use Rattle.hq_model.specs.Permission.{Permission}
use Rattle.hq_model.specs.Permitted.{permitted_under, shown_under}
use Rattle.hq_model.specs.Schema.{Schema, rel, numbered}
use Rattle.hq_model.specs.Seen.{linked_by}
use Rattle.hq_model.specs.declared.role.Role.{Role}

-- of lists of rows, one for each table of the copy, that of a table of the original
abbrev pub rows_for : List Source → List (List Row) → ℕ → List Row
rows_for os lists t = slice_index_or lists (table_place os t) []

-- the value of an added column in the row at position i, where P has the permitted rows of each table
abbrev pub direct_value : Schema → (P : ℕ → List Row) → (i : ℕ) → Row → Extra → Val
direct_value s P i x (from_end k l) = number_value (from_number (linked_by (rel s l.table l.relationship).pairs) (P (link_remote s l)) x)
direct_value s P i x (to_end k l) = number_value (first_from (linked_by (rel s l.table l.relationship).pairs) (P l.table) (P (link_remote s l)) x)
direct_value s P i x row_position = val.Int (pos (suc i))

-- the values that show of a row
abbrev pub shown_values : Permission → Schema → List (List Row) → Source → Row → List Val
shown_values p s d o x = map (λ c. value_of (shown_under p s d o.entry.table x c)) o.permission.columns

-- the copy of the row at position i
abbrev pub direct_row : Role → MetaTree → Schema → List (List Row) → Permission → (P : ℕ → List Row) → Source → ℕ → Row → Row
direct_row role m s d p P o i x = shown_values p s d o x ++ map (direct_value s P i x) (extras_of role m s o)

-- the copies of the rows of each table, where lists has the permitted rows of each
abbrev pub direct_lists : Role → MetaTree → Schema → List (List Row) → (P : ℕ → List Row) → List Source → List Permission → (lists : List (List Row)) → List (List Row)
direct_lists role m s d P (o ∷ os) (p ∷ ps) (rows ∷ lists) = numbered (direct_row role m s d p P o) 0 rows ∷ direct_lists role m s d P os ps lists
direct_lists role m s d P _ _ _ = []

-- the permitted rows of each table of the copy, under what is granted of it
abbrev pub permitted_lists : Schema → List (List Row) → List Source → List Permission → List (List Row)
permitted_lists s d (o ∷ os) (p ∷ ps) = permitted_under p s d o.entry.table ∷ permitted_lists s d os ps
permitted_lists s d _ _ = []

-- their copies
abbrev pub lists_due : Role → MetaTree → Schema → List (List Row) → List Source → List Permission → List (List Row)
lists_due role m s d os ps = direct_lists role m s d (rows_for os (permitted_lists s d os ps)) os ps (permitted_lists s d os ps)
