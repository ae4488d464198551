-- Places without which WHERE keeps what it keeps with them.
use Rattle.std.specs.Prelude.{◌≡◌, ◌<◌, ◌+◌, ◌*◌, ◌%◌, ◌==◌, ℕ, List, [], ◌∷◌, length, map, Bool, false, Option, Some, None, IfSome, slice_index_or}
use Rattle.std.specs.List.{list_any}
use Rattle.std.specs.Global.{Vec}
use Rattle.std.specs.Borrow.{Bor}
use Rattle.hq_base.specs.Cells.{CellTree, cell_of}
use Rattle.hq_base.specs.declared.value.Val.{Val}
use Rattle.hq_base.specs.declared.value.Val.TheVariants as val
use Rattle.hq_load_index.specs.Grids.{rows_in}
use Rattle.hq_load_index.specs.Indexes.{IsOver, columns_of, rows_with}
use Rattle.hq_load_index.specs.Keys.{has_key}
use Rattle.hq_sql_tree.specs.Meaning.{NamedRow, Scope as Names, World, kept}
use Rattle.hq_sql_tree.specs.Tree.{FilterTree, JoinTrees, filter, joins_of}
use Rattle.hq_sql_tree.specs.View.{expr_view, filter_view, join_view, order_view, pred_view}
use Rattle.hq_sql_tree.specs.declared.select.Join.{Join}
use Rattle.hq_sql_tree.specs.declared.select.Pred.{Pred}
use Rattle.hq_sql_access.specs.Sources.{has_items}
use Rattle.hq_sql_access.specs.View.{row_in, scope_of, source_view, world_of}
use Rattle.hq_sql_access.specs.declared.pinned.Pinned.{Pinned}
use Rattle.hq_sql_access.specs.declared.scope.Scope.{Scope}
use Rattle.hq_sql_access.specs.declared.scope.Source.{Source}
use Rattle.hq_sql_access.specs.declared.scope.Source.TheVariants as source
use Rattle.hq_sql_access.specs.declared.stages.Parts.{Parts}
use Rattle.hq_sql_access.specs.declared.stored.Stored.{Stored}
use Rattle.hq_sql_constants.specs.declared.marked.Constants.{Constants}
use Rattle.hq_sql_constants.specs.declared.sifted.Left.{Left}
use Rattle.hq_sql_constants.specs.declared.sifted.Left.TheVariants.{At, Chosen}
use Rattle.hq_sql_scans.specs.Ordered.{places_looked}
use Rattle.hq_sql_scans.specs.Positions.{arranged, kept_of, positions_of, rows_at}
use Rattle.hq_sql_scans.specs.declared.ordered.Looked.{Looked}
use Rattle.hq_sql_scans.specs.declared.ordered.Looked.TheVariants.{Arranged, Sorted, Unsorted}
use Rattle.hq_sql_scans.specs.declared.positions.Positions.{Positions}

-- over these tables WHERE keeps the same of these rows as of those, whatever is in scope
pub record KeepsSame (w : World) (js : JoinTrees) (alias : List ℕ) (f : FilterTree) (rows others : List NamedRow) : Type 0 where
  pub same : (n : Names) → kept_of js w n alias (kept f w) rows ≡ kept_of js w n alias (kept f w) others

-- over the tables that are joined WHERE keeps the same of the rows of a source at these places as at those at which a scan looks
abbrev pub KeepsSameAt : Pinned → List Join → (alias : List ℕ) → FilterTree → Source → Positions → (places : List ℕ) → Type 0
KeepsSameAt world joins alias f from positions places =
    KeepsSame (world_of world) (joins_of (map join_view joins)) alias f (map (row_in from) places) (rows_at from positions)

-- the same of a condition and a table, where places were found
abbrev pub Sifts : Pinned → List Join → (alias : List ℕ) → Pred → Bor Stored → Positions → Option (Vec ℕ) → Type 0
Sifts world joins alias p stored positions found = IfSome found (λ places. KeepsSameAt world joins alias (filter (pred_view p)) (source.Stored stored) positions places.items)

-- these are the constants, each a row of one value
pub record AreConstants (vs : List Val) (s : Constants) : Type 0 where
  pub over : IsOver (rows_in s.grid) s.index
  pub columns : columns_of s.index ≡ 0 ∷ []
  pub rows : rows_in s.grid ≡ map (λ v. v ∷ []) vs

-- whether a cell is one of the constants, as a look-up tells it
abbrev pub has_constant : Constants → CellTree → Bool
has_constant s c = has_items (rows_with (columns_of s.index) (c ∷ []) (rows_in s.grid))

-- the slot of a text, as it goes on from that of the bytes before: a hash of 16 bits
abbrev pub text_slot : ℕ → List ℕ → ℕ
text_slot h [] = h
text_slot h (b ∷ bs) = text_slot ((h * 31 + b) % 65536) bs

abbrev pub slot_of : Val → ℕ
slot_of (val.Text t) = text_slot 0 t
slot_of val.Null = 0
slot_of (val.Int n) = 0
slot_of (val.Bool b) = 0

-- the slots of these values are taken
pub record AreTaken (vs : List Val) (taken : List Bool) : Type 0 where
  pub none : (x : Val) → slice_index_or taken (slot_of x) false ≡ false → list_any (λ u. u == slot_of x) (map slot_of vs) ≡ false

-- what has a slot that is not taken is no constant
pub record HasSlots (s : Constants) : Type 0 where
  pub none : (x : Val) → slice_index_or s.taken.items (slot_of x) false ≡ false → has_constant s (cell_of x) ≡ false

-- rows that are not marked have none of these values in columns
pub record MarksAll (rows : List (List Val)) (columns : List ℕ) (vs : List Val) (marks : List Bool) : Type 0 where
  pub count : length marks ≡ length rows
  pub none : (t : ℕ) → t < length rows → slice_index_or marks t false ≡ false → list_any (λ v. has_key columns (cell_of v ∷ []) (slice_index_or rows t [])) vs ≡ false

-- the places that are left
abbrev pub places_left : Left → List ℕ
places_left (At positions) = positions_of positions
places_left (Chosen places) = places.items

-- other places, which stand as those did
abbrev pub with_places : Looked → Positions → Looked
with_places (Arranged at) positions = Arranged positions
with_places (Sorted at) positions = Sorted positions
with_places (Unsorted at) positions = Unsorted positions

-- the second places are those that are left, and stand as the first ones do
abbrev pub IsLeft : Looked → Left → Looked → Type 0
IsLeft looked left again = (again ≡ with_places looked (places_looked again)) × (positions_of (places_looked again) ≡ places_left left)

-- how places stand: as ORDER BY and DISTINCT ON leave them, as ORDER BY does, or in no order
abbrev pub as_looked : Parts → Looked → List Names → List Names
as_looked parts (Arranged at) names = arranged (map expr_view parts.distinct.now.items) (map order_view parts.order.now.items) names
as_looked parts (Sorted at) names = arranged [] (map order_view parts.order.now.items) names
as_looked parts (Unsorted at) names = names

-- over these tables WHERE keeps at places all that it keeps, as they stand
abbrev pub FindsOver : World → JoinTrees → Scope → (alias : List ℕ) → Parts → Source → Looked → Type 0
FindsOver w js scope alias parts source looked =
    kept_of js w (scope_of scope w) alias (kept (filter_view parts.filter.now) w) (rows_at source (places_looked looked))
    ≡ as_looked parts looked (kept_of js w (scope_of scope w) alias (kept (filter_view parts.filter.now) w) (source_view source))
