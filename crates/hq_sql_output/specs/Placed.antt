-- What is in scope at the places of a FROM with its joins.
use Rattle.std.specs.Prelude.{◌≡◌, ◌++◌, ℕ, List, map, take, Option, None}
use Rattle.hq_sql_tree.specs.Tree.{joins_of}
use Rattle.hq_sql_tree.specs.View.{join_view, filter_view}
use Rattle.hq_sql_tree.specs.Meaning.{NamedRow, Scope as Names, World, with_alias, kept}
use Rattle.hq_sql_tree.specs.declared.select.Pred.{Pred}
use Rattle.hq_sql_scans.specs.Positions.{rows_at, kept_of}
use Rattle.hq_sql_access.specs.View.{names_at, names_of, source_view, world_of}
use Rattle.hq_sql_access.specs.declared.pinned.Pinned.{Pinned}
use Rattle.hq_sql_scans.specs.declared.positions.Positions.{Positions}
use Rattle.hq_sql_access.specs.declared.scope.Scope.{Scope}
use Rattle.hq_sql_access.specs.declared.place.JoinedRow.{JoinedRow}
use Rattle.hq_sql_access.specs.declared.stages.Parts.{Parts}
use Rattle.hq_sql_select.specs.Selected.{Pages}
use Rattle.hq_sql_select.specs.declared.scans.Piece.{Piece}
use Rattle.hq_sql_output.specs.declared.places.Found.{Found}
use Rattle.hq_sql_output.specs.declared.places.Found.TheVariants.{Arranged, Places}
use Rattle.hq_sql_output.specs.declared.places.Placed.{Placed}

-- at a place
abbrev pub names_in : Placed → World → Names → JoinedRow → Names
names_in placed world names place = names_at placed.source placed.alias.now (joins_of (map join_view placed.joins.now)) world names place

-- the same among what is lent
abbrev pub names_there : Placed → Pinned → Scope → JoinedRow → Names
names_there placed world scope place = names_in placed (world_of world) (names_of scope world) place

-- at the rows of FROM
abbrev pub from_in : Placed → Names → List Names
from_in placed names = map (with_alias names placed.alias.now) (source_view placed.source)

-- what WHERE keeps of these rows of FROM with the joins
abbrev pub kept_in : Placed → Option Pred → Pinned → Scope → List NamedRow → List Names
kept_in placed condition world scope rows =
    kept_of (joins_of (map join_view placed.joins.now)) (world_of world) (names_of scope world) placed.alias.now (kept (filter_view condition) (world_of world)) rows

-- what WHERE keeps at these positions
abbrev pub found_in : Placed → Positions → Option Pred → Pinned → Scope → List Names
found_in placed positions condition world scope = kept_in placed condition world scope (rows_at placed.source positions)

-- and at the first so many of them
abbrev pub found_before : ℕ → Placed → Positions → Option Pred → Pinned → Scope → List Names
found_before n placed positions condition world scope = kept_in placed condition world scope (take n (rows_at placed.source positions))

-- what WHERE keeps before a position, and then these places, is what it keeps before the next one
abbrev pub Continues : (from : ℕ) → Placed → Positions → Option Pred → Pinned → Scope → Piece → Type 0
Continues from placed positions condition world scope piece =
    found_before from placed positions condition world scope ++ map (names_there placed world scope) piece.places.items
    ≡ found_before piece.next placed positions condition world scope

-- what is in scope where rows were found
abbrev pub found_at : Found → Placed → Option Pred → Pinned → Scope → List Names
found_at (Arranged positions) placed condition world scope = found_in placed positions condition world scope
found_at (Places places) placed condition world scope = map (names_there placed world scope) places.items

-- these places are what WHERE keeps at these positions, by ORDER BY and DISTINCT ON
abbrev pub AreSorted : Positions → Placed → Parts → Pinned → Scope → List JoinedRow → Type 0
AreSorted positions placed parts world scope places =
    Pages (rows_at placed.source positions) placed.source placed.alias.now placed.joins.now parts None None world scope places
