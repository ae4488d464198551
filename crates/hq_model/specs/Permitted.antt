-- The rows that a session may see of a database, and the cells that it is shown (Hasura, Authorization: row and column permissions).
use Rattle.std.specs.Prelude.{ℕ, List, [], ◌∷◌, filter, false, cond, ◌==◌}
use Rattle.std.specs.declared.cmp.Ordering.{Ordering}
use Rattle.std.specs.declared.cmp.Ordering.TheVariants.{Equal}
use Rattle.std.specs.Ordering.{on, then_cmp}
use Rattle.hq_base.specs.Cells.{CellTree, null, key_cmp}
use Rattle.hq_base.specs.Lists.{sort}
use Rattle.hq_model.specs.Bexp.{BexpTree, always}
use Rattle.hq_model.specs.Database.{Row}
use Rattle.hq_model.specs.Grants.{Grants, grant}
use Rattle.hq_model.specs.Permission.{Mask, Permission}
use Rattle.hq_model.specs.Schema.{Schema, table, rel}
use Rattle.hq_model.specs.Seen.{Sees, all_of, linked_by, row_cell, table_rows}
use Rattle.hq_model.specs.Truth.{keeps}

-- rows by the cells of these columns, ascending, one column after the other
abbrev pub columns_cmp : List ℕ → Row → Row → Ordering
columns_cmp [] x y = Equal
columns_cmp (c ∷ cs) x y = then_cmp (on (λ row. row_cell row c) (key_cmp false false)) (columns_cmp cs) x y

-- the rows of a table in ascending order of their primary key
abbrev pub by_key : Schema → List (List Row) → ℕ → List Row
by_key s d t = sort (columns_cmp (table s t).key) (table_rows d t)

-- the permitted rows under a permission: those of by_key at which its filter is true, over all of the database
abbrev pub permitted_under : Permission → Schema → List (List Row) → ℕ → List Row
permitted_under p s d t = filter (keeps p.filter s (all_of s d) t) (by_key s d t)

-- the rows of a table that a session may see
abbrev pub permitted : Schema → Grants → List (List Row) → ℕ → List Row
permitted s g d t = permitted_under (grant g t) s d t

-- the expression that is to be true at a row for its cell of this column to show; a column without a mask always shows
abbrev pub mask_of : List Mask → ℕ → BexpTree
mask_of [] c = always
mask_of (m ∷ ms) c = cond (m.column == c) m.shown (mask_of ms c)

-- the shown cell of a row: its cell where the mask is true over all of the database, else NULL
abbrev pub shown_under : Permission → Schema → List (List Row) → ℕ → Row → ℕ → CellTree
shown_under p s d t row c = cond (keeps (mask_of p.masks c) s (all_of s d) t row) (row_cell row c) null

-- the cell of a row that a session is shown
abbrev pub shown : Schema → Grants → List (List Row) → ℕ → Row → ℕ → CellTree
shown s g d t = shown_under (grant g t) s d t

-- what a session sees of a database: permitted rows and shown cells. Links read the rows themselves
abbrev pub seen_by : Schema → Grants → List (List Row) → Sees Row
seen_by s g d = record {
  rows = permitted s g d;
  cell = shown s g d;
  linked = λ t r. linked_by (rel s t r).pairs;
}
