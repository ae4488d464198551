-- Indexes that have rows in the order that ORDER BY asks for (PostgreSQL, CREATE INDEX: indexes and ORDER BY).
use Rattle.std.specs.Prelude.{◌≡◌, ◌<◌, ℕ, List, [], ◌∷◌, map, Bool, true, false, cond, length, bytes_eq, slice_index_or}
use Rattle.std.specs.declared.cmp.Ordering.{Ordering}
use Rattle.std.specs.declared.cmp.Ordering.TheVariants.{Equal}
use Rattle.std.specs.Ordering.{flip_args}
use Rattle.std.specs.Borrow.{Bor}
use Rattle.hq_base.specs.Cells.{CellTree}
use Rattle.hq_model.specs.Database.{Row}
use Rattle.hq_model.specs.declared.table.Column.{Column}
use Rattle.hq_load_index.specs.Indexes.{IsOver, columns_of, entries_of}
use Rattle.hq_load_index.specs.Repeats.{KeysDiffer}
use Rattle.hq_load_index.specs.Keys.{key_at, cell_in, key_in, keys_cmp, has_null}
use Rattle.hq_load_index.specs.declared.index.Index.{Index}
use Rattle.hq_sql_tree.specs.Tree as tree
use Rattle.hq_sql_tree.specs.declared.expr.Expr.{Expr}
use Rattle.hq_sql_tree.specs.Tree.{ExprTree, JoinTrees, OrderTree}
use Rattle.hq_sql_tree.specs.View.{expr_view, order_view, filter_view}
use Rattle.hq_sql_tree.specs.Meaning.{Scope as Names, named_row, value, order_cmp}
use Rattle.hq_sql_scans.specs.Positions.{rows_at, FindsAll, FindsArranged}
use Rattle.hq_sql_scans.specs.declared.positions.Positions.{Positions}
use Rattle.hq_sql_scans.specs.declared.positions.Positions.TheVariants.{Ordered, Backward}
use Rattle.hq_sql_scans.specs.declared.ordered.Looked.{Looked}
use Rattle.hq_sql_scans.specs.declared.ordered.Looked.TheVariants.{Arranged, Sorted, Unsorted}
use Rattle.hq_sql_access.specs.declared.scope.Scope.{Scope}
use Rattle.hq_sql_access.specs.declared.scope.Source.{Source}
use Rattle.hq_sql_access.specs.declared.stages.Parts.{Parts}

-- the order of keys, or the one against it
abbrev pub towards : (desc : Bool) → List CellTree → List CellTree → Ordering
towards desc = cond desc (flip_args keys_cmp) keys_cmp

-- a sort key has this direction, and at each row of the alias its cell in this column
pub record IsKey (desc : Bool) (columns : List Column) (alias : List ℕ) (column : ℕ) (o : OrderTree) : Type 0 where
  pub directed : o.desc ≡ desc
  pub cell : (row : Row) (m : Names) → m alias ≡ named_row columns row → value o.value [] m ≡ cell_in row column

-- ORDER BY has the rows of the alias whose keys in these columns have no NULL in the order of these keys, or against it
pub record OrdersBy (desc : Bool) (columns : List Column) (alias : List ℕ) (key_columns : List ℕ) (os : List OrderTree) : Type 0 where
  pub orders : (row other : Row) (m n : Names) → m alias ≡ named_row columns row → n alias ≡ named_row columns other
      → has_null (key_in key_columns row) ≡ false → has_null (key_in key_columns other) ≡ false
      → order_cmp os m n ≡ towards desc (key_in key_columns row) (key_in key_columns other)

-- sort keys tie wherever the alias has one row, whatever else is in scope
pub record TiesAt (alias : List ℕ) (os : List OrderTree) : Type 0 where
  pub ties : (m n : Names) → m alias ≡ n alias → order_cmp os m n ≡ Equal

-- a column of the alias
abbrev pub is_own : (alias : List ℕ) → ExprTree → Bool
is_own alias (tree.column a name form) = bytes_eq alias a
is_own alias _ = false

-- ORDER BY has these rows, where their keys in these columns have no NULL, in the order of these keys, or against it
pub record OrdersRows (desc : Bool) (columns : List Column) (rows : List Row) (alias : List ℕ) (key_columns : List ℕ) (os : List OrderTree) : Type 0 where
  pub orders : (i j : ℕ) (m n : Names) → i < length rows → j < length rows → m alias ≡ named_row columns (slice_index_or rows i []) → n alias ≡ named_row columns (slice_index_or rows j [])
      → has_null (key_at key_columns rows i) ≡ false → has_null (key_at key_columns rows j) ≡ false
      → order_cmp os m n ≡ towards desc (key_at key_columns rows i) (key_at key_columns rows j)

-- an index over rows of the alias has all of them, and orders them as ORDER BY does; against it only where no two have one key
pub record HasOrder (desc : Bool) (columns : List Column) (rows : List Row) (alias : List ℕ) (os : List OrderTree) (index : Index) : Type 0 where
  pub over : IsOver rows index
  pub whole : length (entries_of index) ≡ length rows
  pub unique : desc ≡ true → KeysDiffer (columns_of index) rows (length rows)
  pub orders : OrdersRows desc columns rows alias (columns_of index) os

-- the places of an index in its order, or against it
abbrev pub walked : (desc : Bool) → Bor Index → Positions
walked desc index = cond desc (Backward index) (Ordered index)

-- places that stand as ORDER BY leaves them, of which DISTINCT ON may leave some
abbrev pub standing : List Expr → Positions → Looked
standing [] positions = Arranged positions
standing (e ∷ es) positions = Sorted positions

-- the places at which a scan looks
abbrev pub places_looked : Looked → Positions
places_looked (Arranged positions) = positions
places_looked (Sorted positions) = positions
places_looked (Unsorted positions) = positions

-- at these places WHERE keeps all that it keeps; where they are arranged, ORDER BY and DISTINCT ON leave that as it is found, and where
-- they are sorted, ORDER BY does
abbrev pub Finds : JoinTrees → Scope → (alias : List ℕ) → Parts → Source → Looked → Type 0
Finds js scope alias parts source (Arranged positions) =
    FindsArranged js scope alias (filter_view parts.filter.now) (map expr_view parts.distinct.now.items) (map order_view parts.order.now.items) source (rows_at source positions)
Finds js scope alias parts source (Sorted positions) = FindsArranged js scope alias (filter_view parts.filter.now) [] (map order_view parts.order.now.items) source (rows_at source positions)
Finds js scope alias parts source (Unsorted positions) = FindsAll js scope alias (filter_view parts.filter.now) source (rows_at source positions)
