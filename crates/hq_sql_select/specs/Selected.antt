-- What the clauses of a select give, one behind the other (PostgreSQL, SELECT), of values as they lie in memory.
use Rattle.std.specs.Prelude.{◌≡◌, ◌++◌, ℕ, List, [], map, take, true, Option}
use Rattle.std.specs.Global.{Vec}
use Rattle.hq_base.specs.Cells.{CellTree}
use Rattle.hq_sql_tree.specs.declared.expr.Expr.{Expr}
use Rattle.hq_sql_tree.specs.declared.expr.Order.{Order}
use Rattle.hq_sql_tree.specs.declared.select.From.{From}
use Rattle.hq_sql_tree.specs.declared.select.Join.{Join}
use Rattle.hq_sql_tree.specs.declared.select.Pred.{Pred}
use Rattle.hq_sql_tree.specs.Meaning.{NamedRow, Scope as Names, with_alias, joined, kept, distinct_on, offset_by, limited, outputs}
use Rattle.hq_sql_tree.specs.Tree.{JoinTrees}
use Rattle.hq_sql_tree.specs.View.{expr_view, filter_view, from_view, order_view, out_view}
use Rattle.hq_sql_access.specs.Keys.{keyed_at}
use Rattle.hq_sql_scans.specs.Positions.{rows_at, kept_of, arranged}
use Rattle.hq_sql_access.specs.Sources.{alias_in, rows_given}
use Rattle.hq_sql_access.specs.View.{made_view, names_at, names_of, place_of, world_of}
use Rattle.hq_sql_constants.specs.declared.sieve.Verdict.{Verdict}
use Rattle.hq_sql_constants.specs.declared.sieve.Verdict.TheVariants.{Kept, Dropped, Open}
use Rattle.hq_sql_access.specs.declared.pinned.Pinned.{Pinned}
use Rattle.hq_sql_access.specs.declared.place.JoinedRow.{JoinedRow}
use Rattle.hq_sql_scans.specs.declared.positions.Positions.{Positions}
use Rattle.hq_sql_access.specs.declared.row.Made.{Made}
use Rattle.hq_sql_access.specs.declared.scope.Scope.{Scope}
use Rattle.hq_sql_access.specs.declared.scope.Source.{Source}
use Rattle.hq_sql_access.specs.declared.stages.Parts.{Parts}
use Rattle.hq_sql_select.specs.Gathered.{Gathers, joins_view, kept_joins}
use Rattle.hq_sql_select.specs.declared.scans.Piece.{Piece}

-- what WHERE keeps of these rows of an alias with its joins
abbrev pub kept_from : List NamedRow → (alias : List ℕ) → List Join → Option Pred → Pinned → Scope → List Names
kept_from rows alias js f world scope = kept_of (joins_view js) (world_of world) (names_of scope world) alias (kept (filter_view f) (world_of world)) rows

-- what is in scope at a place of a FROM
abbrev pub scope_at : Source → (alias : List ℕ) → List Join → Pinned → Scope → JoinedRow → Names
scope_at source alias js world scope = names_at source alias (joins_view js) (world_of world) (names_of scope world)

-- what WHERE keeps of the rows at the first so many positions, and then these places, is what it keeps of those before the next one
abbrev pub Continues : Source → Positions → (from : ℕ) → (alias : List ℕ) → List Join → Option Pred → Pinned → Scope → Piece → Type 0
Continues source positions from alias js f world scope piece =
    kept_from (take from (rows_at source positions)) alias js f world scope ++ map (scope_at source alias js world scope) piece.places.items
    ≡ kept_from (take piece.next (rows_at source positions)) alias js f world scope

-- what is told of what is in scope at a row of FROM is so: WHERE keeps each row of the joins at it, or none
abbrev pub Told : JoinTrees → Option Pred → Pinned → Names → Verdict → Type 0
Told js f world names Kept = kept_joins js f world names ≡ joined js (world_of world) names
Told js f world names Dropped = kept_joins js f world names ≡ []
Told js f world names Open = Unit {0}

-- the second places are the first ones, and behind them those of the rows of joins that WHERE keeps at this position
abbrev pub Adds : JoinTrees → Option Pred → Pinned → Names → (position : ℕ) → (places more : List JoinedRow) → Type 0
Adds js f world names position places more = (lists : List (Vec (Option Made))) × (more ≡ places ++ map (place_of position) lists) × Gathers js f world names lists

-- ORDER BY, and DISTINCT ON
abbrev pub arranged_by : List Expr → List Order → List Names → List Names
arranged_by es os names = arranged (map expr_view es) (map order_view os) names

-- the second places are the first ones by ORDER BY, of which DISTINCT ON leaves some
abbrev pub Arranges : (JoinedRow → Names) → List Expr → List Order → (places sorted : List JoinedRow) → Type 0
Arranges at es os places sorted = map at sorted ≡ arranged_by es os (map at places)

-- the second places are those of the first ones that DISTINCT ON leaves
abbrev pub Groups : (JoinedRow → Names) → List Expr → (places left : List JoinedRow) → Type 0
Groups at es places left = map at left ≡ distinct_on (map expr_view es) (map at places)

-- a place with its sort keys and its values of DISTINCT ON, in this scope
abbrev pub keyed_in : List Order → List Expr → Names → JoinedRow → (List CellTree × List CellTree) × JoinedRow
keyed_in os es names place = keyed_at names (map order_view os) (map expr_view es) place

-- what is in scope at each of these rows of an alias
abbrev pub names_each : (alias : List ℕ) → List Made → Pinned → Scope → List Names
names_each alias rows world scope = map (with_alias (names_of scope world) alias) (map made_view rows)

-- the rows of a select over these rows of its alias, before its outputs: from WHERE to LIMIT
abbrev pub paged_from : List NamedRow → (alias : List ℕ) → List Join → Parts → (limit offset : Option ℕ) → Pinned → Scope → List Names
paged_from rows alias js parts limit offset world scope =
    limited limit (offset_by offset (arranged_by parts.distinct.now.items parts.order.now.items (kept_from rows alias js parts.filter.now world scope)))

-- these places of a FROM are those rows
abbrev pub Pages : List NamedRow → Source → (alias : List ℕ) → List Join → Parts → (limit offset : Option ℕ) → Pinned → Scope → List JoinedRow → Type 0
Pages rows source alias js parts limit offset world scope places = map (scope_at source alias js world scope) places ≡ paged_from rows alias js parts limit offset world scope

-- the same, where nothing is left to arrange
abbrev pub PagesFront : List NamedRow → Source → (alias : List ℕ) → List Join → Option Pred → (limit offset : Option ℕ) → Pinned → Scope → List JoinedRow → Type 0
PagesFront rows source alias js f limit offset world scope places =
    map (scope_at source alias js world scope) places ≡ limited limit (offset_by offset (kept_from rows alias js f world scope))

-- the same, where DISTINCT ON alone is left to do
abbrev pub PagesGroups : List NamedRow → Source → (alias : List ℕ) → List Join → Parts → (limit offset : Option ℕ) → Pinned → Scope → List JoinedRow → Type 0
PagesGroups rows source alias js parts limit offset world scope places =
    map (scope_at source alias js world scope) places
    ≡ limited limit (offset_by offset (distinct_on (map expr_view parts.distinct.now.items) (kept_from rows alias js parts.filter.now world scope)))

-- the outputs of a select whose FROM gives these rows of a sub-select
abbrev pub selected : Parts → From → List Join → (limit offset : Option ℕ) → List Made → Pinned → Scope → List NamedRow
selected parts from js limit offset made world scope =
    map (outputs (map out_view parts.outs.now.items) [])
    (paged_from (rows_given (from_view from) (world_of world) (map made_view made)) (alias_in (from_view from)) js parts limit offset world scope)
