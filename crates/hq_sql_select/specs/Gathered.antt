-- What the walk over joins gives (PostgreSQL, SELECT: LATERAL joins and WHERE), of values as they lie in memory.
use Rattle.std.specs.Prelude.{◌≡◌, List, map, filter, flat_map, Option, option_map}
use Rattle.std.specs.Global.{Vec}
use Rattle.hq_sql_tree.specs.declared.select.Join.{Join}
use Rattle.hq_sql_tree.specs.declared.select.Pred.{Pred}
use Rattle.hq_sql_tree.specs.Meaning.{NamedRow, Scope as Names, with_alias, joined, kept, rows_of}
use Rattle.hq_sql_tree.specs.Tree.{JoinTrees, joins_of}
use Rattle.hq_sql_tree.specs.View.{filter_view, join_view}
use Rattle.hq_sql_access.specs.Joined.{join_in}
use Rattle.hq_sql_access.specs.View.{beside, first_row, joined_view, made_view, names_of, world_of}
use Rattle.hq_sql_access.specs.declared.pinned.Pinned.{Pinned}
use Rattle.hq_sql_access.specs.declared.row.Made.{Made}
use Rattle.hq_sql_access.specs.declared.scope.Scope.{Scope}

-- the joins of a select
abbrev pub joins_view : List Join → JoinTrees
joins_view js = joins_of (map join_view js)

-- a join in front of others
abbrev pub first_join : Join → List Join → JoinTrees
first_join j js = join_in (join_view j) (joins_view js)

-- what is in scope at a row of a join
abbrev pub names_beside : Join → Made → Pinned → Scope → Names
names_beside j row world scope = with_alias (names_of scope world) (join_view j).alias (made_view row)

-- what is in scope at a row of joins, of which some are put off
abbrev pub names_joined : List Join → List (Option Made) → Pinned → Names → Names
names_joined js rows world names = beside (joins_view js) (world_of world) names (map (option_map made_view) rows)

-- the first row of a join in this scope
abbrev pub first_beside : Join → Names → Pinned → NamedRow
first_beside j names world = first_row (rows_of (join_view j).select (world_of world) names)

-- the rows of joins that WHERE keeps
abbrev pub kept_joins : JoinTrees → Option Pred → Pinned → Names → List Names
kept_joins js f world names = filter (kept (filter_view f) (world_of world)) (joined js (world_of world) names)

-- these rows of joins are those that WHERE keeps
abbrev pub Gathers : JoinTrees → Option Pred → Pinned → Names → List (Vec (Option Made)) → Type 0
Gathers js f world names lists =
    map (beside js (world_of world) names) (map joined_view lists) ≡ kept_joins js f world names

-- the same beside each of these rows of the first join
abbrev pub Spreads : Join → List Join → List Made → Option Pred → Pinned → Names → List (Vec (Option Made)) → Type 0
Spreads j js rows f world names lists =
    map (beside (first_join j js) (world_of world) names) (map joined_view lists)
    ≡ filter (kept (filter_view f) (world_of world)) (flat_map (joined (joins_view js) (world_of world)) (map (with_alias names (join_view j).alias) (map made_view rows)))
