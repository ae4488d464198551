-- The size of a selection set: how many fields stand in it after fragments are put in, and how deep it nests. A spread counts
-- its fragment's fields; each spread and each inline fragment is a level of its own; directives are not looked at.
use Rattle.std.specs.Prelude.{ℕ, zero, suc, ◌+◌, max, nat_le, List, [], ◌∷◌, Bool, ◌&&◌, Option, Some, None, option_and_then}
use Rattle.hq_gql_tree.specs.Documents.{DocumentTree}
use Rattle.hq_gql_tree.specs.Selections.{SelectionTree, field, spread, inline}
use Rattle.hq_request_collect.specs.Fragments.{inside}

-- a field counts as one
abbrev pub own_fields : SelectionTree → ℕ
own_fields (field h below) = 1
own_fields (inline h below) = 0
own_fields (spread s) = 0

-- the fields of the first `levels` levels
abbrev pub sum_of : (SelectionTree → ℕ) → List SelectionTree → ℕ
sum_of f [] = 0
sum_of f (s ∷ ss) = f s + sum_of f ss

unfoldable pub fields : (levels : ℕ) → DocumentTree → List SelectionTree → ℕ
fields zero d ss = 0
fields (suc n) d ss = sum_of (λ s. own_fields s + fields n d (inside d s)) ss

-- the depth, or `levels` where it is greater
abbrev pub most_of : (SelectionTree → ℕ) → List SelectionTree → ℕ
most_of f [] = 0
most_of f (s ∷ ss) = max (f s) (most_of f ss)

unfoldable pub depth : (levels : ℕ) → DocumentTree → List SelectionTree → ℕ
depth zero d ss = 0
depth (suc n) d ss = most_of (λ s. suc (depth n d (inside d s))) ss

-- at most 5,000 fields and 50 levels
unfoldable pub is_small : DocumentTree → List SelectionTree → Bool
is_small d ss = nat_le (depth 51 d ss) 50 && nat_le (fields 51 d ss) 5000

-- n less, where there are so many
abbrev pub less : (n left : ℕ) → Option ℕ
less zero left = Some left
less (suc n) zero = None
less (suc n) (suc left) = less n left

-- How many more fields there may be behind a selection where there may be `left` from it on, and behind several; none as soon
-- as a limit is passed. `inner` says it of what stands in a selection.
abbrev pub left_in : (inner : List SelectionTree → ℕ → Option ℕ) → DocumentTree → SelectionTree → (left : ℕ) → Option ℕ
left_in inner d s left = option_and_then (inner (inside d s)) (less (own_fields s) left)

abbrev pub left_of : (inner : List SelectionTree → ℕ → Option ℕ) → DocumentTree → List SelectionTree → (left : ℕ) → Option ℕ
left_of inner d [] left = Some left
left_of inner d (s ∷ ss) left = option_and_then (left_of inner d ss) (left_in inner d s left)

abbrev pub left_where_empty : List SelectionTree → (left : ℕ) → Option ℕ
left_where_empty [] left = Some left
left_where_empty (s ∷ ss) left = None

unfoldable pub left_after : (levels : ℕ) → DocumentTree → List SelectionTree → (left : ℕ) → Option ℕ
left_after zero d ss left = left_where_empty ss left
left_after (suc n) d ss left = left_of (left_after n d) d ss left
