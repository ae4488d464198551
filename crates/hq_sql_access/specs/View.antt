-- What rows and scopes in memory are seen as (PostgreSQL, SELECT: FROM, and LATERAL joins).
use Rattle.std.specs.Prelude.{ℕ, List, [], ◌∷◌, map, Option, Some, None, option_map, slice_index_or}
use Rattle.std.specs.Global.{Vec}
use Rattle.hq_base.specs.Cells.{CellTree}
use Rattle.hq_model.specs.Database.{Row}
use Rattle.hq_sql_cells.specs.View.{cell_view}
use Rattle.hq_sql_tree.specs.Tree.{JoinTrees, no_join, join, joins_of}
use Rattle.hq_sql_tree.specs.View.{join_view, select_view}
use Rattle.hq_sql_tree.specs.Meaning.{NamedRow, Scope as Names, nothing, with_alias, named_row, World, rows_of}
use Rattle.hq_sql_access.specs.declared.row.Named.{Named}
use Rattle.hq_sql_access.specs.declared.row.Made.{Made}
use Rattle.hq_sql_access.specs.declared.row.Row.{Row as Lent}
use Rattle.hq_sql_access.specs.declared.row.Row.TheVariants as row
use Rattle.hq_sql_access.specs.declared.pinned.Pinned.{Pinned}
use Rattle.hq_sql_access.specs.Lent.{rows_lent}
use Rattle.hq_sql_access.specs.Pins.{world_in}
use Rattle.hq_sql_access.specs.Sources.{row_of_one}
use Rattle.hq_sql_access.specs.declared.scope.Source.{Source}
use Rattle.hq_sql_access.specs.declared.scope.Source.TheVariants as source
use Rattle.hq_sql_access.specs.declared.scope.Group.{Group}
use Rattle.hq_sql_access.specs.declared.scope.Group.TheVariants.{Alone, Of}
use Rattle.hq_sql_access.specs.declared.scope.Scope.{Scope, Nothing, Bound', Later', Joined'}
use Rattle.hq_sql_access.specs.declared.place.JoinedRow.{JoinedRow}

-- a cell with its name
abbrev pub named_view : Named → List ℕ × CellTree
named_view n = (n.name.now, cell_view n.cell)

-- a row that a select makes
abbrev pub made_view : Made → NamedRow
made_view m = map named_view m.cells.items

-- a row that is lent
abbrev pub row_view : Lent → NamedRow
row_view (row.Stored columns values) = named_row columns.now values.now
row_view (row.Made cells) = map named_view cells.now
row_view row.One = row_of_one

-- the tables that are pinned, with their rows
abbrev pub world_of : Pinned → World
world_of pinned = world_in pinned.tables.now

-- the rows of a FROM
abbrev pub source_view : Source → List NamedRow
source_view (source.Stored stored) = map (named_row stored.now.table.now.columns) (rows_lent stored.now.rows)
source_view (source.Made rows) = map made_view rows.now
source_view source.One = row_of_one ∷ []

-- the row at a place, without cells where there is none
abbrev pub row_in : Source → ℕ → NamedRow
row_in (source.Stored stored) position = slice_index_or (map (named_row stored.now.table.now.columns) (rows_lent stored.now.rows)) position []
row_in (source.Made rows) position = slice_index_or (map made_view rows.now) position []
row_in source.One position = row_of_one

-- the values of the row at a place of a table: none where there is no such row, and none of another FROM
abbrev pub values_in : Source → ℕ → Row
values_in (source.Stored stored) position = slice_index_or (rows_lent stored.now.rows) position []
values_in (source.Made rows) position = []
values_in source.One position = []

-- the first row, and the row of NULLs where there is none
abbrev pub first_row : List NamedRow → NamedRow
first_row [] = []
first_row (r ∷ rs) = r

-- a row of joins, of which some have a row already, and those that are put off the first row of their select
abbrev pub beside : JoinTrees → World → Names → List (Option NamedRow) → Names
beside no_join world names rows = names
beside (join select alias js) world names [] = beside js world (with_alias names alias (first_row (rows_of select world names))) []
beside (join select alias js) world names (None ∷ rows) = beside js world (with_alias names alias (first_row (rows_of select world names))) rows
beside (join select alias js) world names (Some r ∷ rows) = beside js world (with_alias names alias r) rows

-- what is in scope: a join that is put off has the first row of its select
abbrev pub scope_of : Scope → World → Names
scope_of Nothing world = nothing
scope_of (Bound' alias row p outer) world = with_alias (scope_of outer world) alias.now (row_view row)
scope_of (Later' alias select p outer) world = with_alias (scope_of outer world) alias.now (first_row (rows_of (select_view select.now) world (scope_of outer world)))
scope_of (Joined' joins rows p outer) world = beside (joins_of (map join_view joins.now)) world (scope_of outer world) (map (option_map made_view) rows.now)

-- the rows that an aggregate is taken over, each with what is in scope around them
abbrev pub group_of : Group → Names → List Names
group_of Alone names = []
group_of (Of alias rows) names = map (with_alias names alias.now) (map made_view rows.now)

-- the rows of joins, of which some are put off
abbrev pub joined_view : Vec (Option Made) → List (Option NamedRow)
joined_view joined = map (option_map made_view) joined.items

-- a place of FROM with the rows of its joins
abbrev pub place_of : (position : ℕ) → Vec (Option Made) → JoinedRow
place_of position joined = record { position = position; joined = joined }

-- what is in scope at a place
abbrev pub names_at : Source → (alias : List ℕ) → JoinTrees → World → Names → JoinedRow → Names
names_at from alias joins world names place =
    beside joins world (with_alias names alias (row_in from place.position)) (joined_view place.joined)

-- what is in scope, over tables with their rows
abbrev pub names_of : Scope → Pinned → Names
names_of scope pinned = scope_of scope (world_of pinned)
