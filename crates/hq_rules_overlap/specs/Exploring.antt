-- What the search by groups keeps.
use Rattle.std.specs.Prelude.{◌≡◌, ℕ, ◌++◌, List, [], length, Bool, true, false, slice_get, unwrap_or}
use Rattle.std.specs.List.{All, Contains}
use Rattle.hq_gql_nodes.specs.Reach.{graph_view}
use Rattle.hq_overlap_sets.specs.Pairs.{AtMost, IsFirst}
use Rattle.hq_overlap_sets.specs.Sets.{SetTree}
use Rattle.hq_overlap_sets.specs.Together.{AreConflicts}
use Rattle.hq_rules_overlap.specs.declared.groups.Groups.{Groups}
use Rattle.hq_rules_overlap.specs.declared.groups.Search.{Search}
use Rattle.hq_rules_overlap.specs.declared.groups.Search.TheVariants.{First, Known}
use Rattle.hq_rules_overlap.specs.Groups.{AreTogether, IsDone, IsExplored, AreExplored, IsCovered}

-- a list goes on where another one ends
abbrev pub Continues : List (List ℕ) → List (List ℕ) → Type 0
Continues old new = (more : List (List ℕ)) × (new ≡ old ++ more)

-- a list that has sets is one of these
abbrev pub IsKept : List (List ℕ) → List ℕ → Type 0
IsKept lists list = (s : ℕ) → Contains list s → Contains lists list

abbrev pub lists_of : Groups → List (List ℕ)
lists_of q = graph_view q.lists.rows.items

-- a mark that is set
abbrev pub is_marked : List Bool → ℕ → Bool
is_marked marks s = unwrap_or (slice_get marks s) false

-- from one state to a later one lists are added, and what counts still does
pub record Goes (p q : Groups) : Type 0 where
  pub lists : Continues (lists_of p) (lists_of q)
  pub lower : (n : ℕ) → AtMost p.found.least n → AtMost q.found.least n

-- a conflict that was found is one, the sets of each list are put together, and those with a mark are in a group that is done
pub record IsSound (sets : List SetTree) (q : Groups) : Type 0 where
  pub best : AreConflicts sets q.found.best
  pub together : All (AreTogether sets) (lists_of q)
  pub covered : (s : ℕ) → is_marked q.covered.items s ≡ true → IsCovered sets (lists_of q) q.found.least s

-- all lists so far are explored
pub record IsAtEnd (sets : List SetTree) (q : Groups) : Type 0 where
  pub sound : IsSound sets q
  pub explored : AreExplored sets (lists_of q) q.found.least q.done
  pub all : length (lists_of q) ≡ q.done

-- a group was looked at
pub record LookedAt (sets : List SetTree) (p q : Groups) (group : List ℕ) : Type 0 where
  pub sound : IsSound sets q
  pub goes : Goes p q
  pub done : IsDone sets (lists_of q) q.found.least group

-- a list was explored
pub record Explored (sets : List SetTree) (p q : Groups) (list : List ℕ) : Type 0 where
  pub sound : IsSound sets q
  pub goes : Goes p q
  pub explored : IsExplored sets (lists_of q) q.found.least list

-- what a search tells
abbrev pub Tells : List SetTree → Search → Type 0
Tells sets (First place) = IsFirst sets place
Tells sets (Known place) = AreConflicts sets place
