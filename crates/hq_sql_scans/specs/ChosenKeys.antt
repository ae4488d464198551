-- The keys of the rows of a table that are chosen.
use Rattle.std.specs.Prelude.{◌≡◌, ◌≤◌, ℕ, List, [], ◌∷◌, map, flat_map, take, cond, length, Bool, slice_index_or}
use Rattle.std.specs.Borrow.{Bor}
use Rattle.std.specs.List.{list_any}
use Rattle.hq_base.specs.Cells.{CellTree}
use Rattle.hq_base.specs.declared.value.Val.{Val}
use Rattle.hq_base.specs.declared.value.Val.TheVariants as val
use Rattle.hq_model.specs.Database.{Row}
use Rattle.hq_load_index.specs.Grids.{rows_in}
use Rattle.hq_load_index.specs.Indexes.{columns_of, rows_with}
use Rattle.hq_load_index.specs.Keys.{has_key}
use Rattle.hq_model.specs.Logic.{truth_of}
use Rattle.hq_sql_tree.specs.declared.expr.Expr.{Expr}
use Rattle.hq_sql_tree.specs.Meaning.{Scope as Names, World, truth_at}
use Rattle.hq_sql_tree.specs.Tree.{PredTree}
use Rattle.hq_sql_access.specs.KeySets.{link_keys}
use Rattle.hq_sql_access.specs.Sources.{has_items}
use Rattle.hq_sql_access.specs.declared.pinned.KeySet.{KeySet}

-- whether this is one of the keys of a set
abbrev pub is_key : KeySet → List CellTree → Bool
is_key s key = has_items (rows_with (columns_of s.index) key (rows_in s.grid))

-- the cells of a row in columns
abbrev pub picked : (columns : List ℕ) → Row → List Val
picked columns row = map (λ c. slice_index_or row c val.Null) columns

-- the rows at which a truth is true
abbrev pub chosen : List Bool → List Row → List Row
chosen (b ∷ bs) (row ∷ rows) = cond b (row ∷ chosen bs rows) (chosen bs rows)
chosen (b ∷ bs) [] = []
chosen [] rows = []

-- of so many rows those that are chosen were gathered: their cells in columns, and how many they are
pub record Gathers (columns : List ℕ) (truths : List Bool) (rows : List Row) (so_far : ℕ) (values : List Val) (count : ℕ) : Type 0 where
  pub cells : values ≡ flat_map (λ row. row) (map (picked columns) (chosen (take so_far truths) (take so_far rows)))
  pub number : count ≡ length (chosen (take so_far truths) (take so_far rows))
  pub few : count ≤ so_far

-- a condition is true exactly where one of these rows that is chosen has the key of the scope in these columns, and false elsewhere
pub record KeepsKeys (w : World) (p : PredTree) (rows : List Row) (truths : List Bool) (columns : List ℕ) (links : List (Bor Expr)) : Type 0 where
  pub whole : length truths ≡ length rows
  pub keeps : (names : Names) → truth_at p w names ≡ truth_of (list_any (has_key columns (link_keys links names)) (chosen truths rows))
