-- The places in a source at which a scan looks.
use Rattle.std.specs.Prelude.{◌≡◌, ℕ, List, map, filter, flat_map, reverse, Bool}
use Rattle.hq_base.specs.Lists.{sort}
use Rattle.hq_load_index.specs.Indexes.{IsOver, counted, entries_of}
use Rattle.hq_load_index.specs.declared.index.Index.{Index}
use Rattle.hq_sql_tree.specs.Tree.{ExprTree, OrderTree, JoinTrees, FilterTree}
use Rattle.hq_sql_tree.specs.Meaning.{NamedRow, Scope as Names, World, with_alias, joined, kept, order_cmp, distinct_on}
use Rattle.hq_sql_access.specs.Lent.{rows_lent}
use Rattle.hq_sql_access.specs.View.{row_in, scope_of, source_view}
use Rattle.hq_sql_scans.specs.declared.positions.Positions.{Positions}
use Rattle.hq_sql_scans.specs.declared.positions.Positions.TheVariants.{All, Entries, Ordered, Backward, Reversed}
use Rattle.hq_sql_access.specs.declared.scope.Scope.{Scope}
use Rattle.hq_sql_access.specs.declared.scope.Source.{Source}
use Rattle.hq_sql_access.specs.declared.scope.Source.TheVariants as source

-- the places, one after the other
abbrev pub positions_of : Positions → List ℕ
positions_of (All n) = counted 0 n
positions_of (Entries rows) = rows.now
positions_of (Ordered index) = entries_of index.now
positions_of (Backward index) = reverse (entries_of index.now)
positions_of (Reversed rows) = reverse rows.now

-- the rows there
abbrev pub rows_at : Source → Positions → List NamedRow
rows_at source positions = map (row_in source) (positions_of positions)

-- an index is over the rows of a table
abbrev pub IsOverSource : Source → Index → Type 0
IsOverSource (source.Stored stored) index = IsOver (rows_lent stored.now.rows) index
IsOverSource (source.Made rows) index = Unit {0}
IsOverSource source.One index = Unit {0}

-- the index that has the places in its order, or against it, is over the rows of the table
abbrev pub WalksRows : Source → Positions → Type 0
WalksRows source (All n) = Unit {0}
WalksRows source (Entries rows) = Unit {0}
WalksRows source (Ordered index) = IsOverSource source index.now
WalksRows source (Backward index) = IsOverSource source index.now
WalksRows source (Reversed rows) = Unit {0}

-- what WHERE keeps of these rows of an alias with its joins
abbrev pub kept_of : JoinTrees → World → Names → (alias : List ℕ) → (Names → Bool) → List NamedRow → List Names
kept_of js w n alias keeps rows = filter keeps (flat_map (joined js w) (map (with_alias n alias) rows))

-- what WHERE keeps of these rows is all that it keeps of those of the source, whatever the tables are
abbrev pub FindsAll : JoinTrees → Scope → (alias : List ℕ) → FilterTree → Source → List NamedRow → Type 0
FindsAll js scope alias f source rows =
    (w : World) → kept_of js w (scope_of scope w) alias (kept f w) rows ≡ kept_of js w (scope_of scope w) alias (kept f w) (source_view source)

-- ORDER BY, and then DISTINCT ON
abbrev pub arranged : List ExprTree → List OrderTree → List Names → List Names
arranged es os names = distinct_on es (sort (order_cmp os) names)

-- what WHERE keeps of these rows, as they stand, is all that it keeps of those of the source, behind ORDER BY and DISTINCT ON
abbrev pub FindsArranged : JoinTrees → Scope → (alias : List ℕ) → FilterTree → List ExprTree → List OrderTree → Source → List NamedRow → Type 0
FindsArranged js scope alias f es os source rows =
    (w : World) → kept_of js w (scope_of scope w) alias (kept f w) rows ≡ arranged es os (kept_of js w (scope_of scope w) alias (kept f w) (source_view source))
