-- The response keys of each object of collected fields (GraphQL October 2021, 6.3.2): they differ, and an object may have 50.
use Rattle.std.specs.Prelude.{ℕ, suc, max, List, [], ◌∷◌, length, Bool, true, ◌&&◌, nat_le, bytes_eq}
use Rattle.hq_base.specs.Lists.{all_differ}
use Rattle.hq_request_collect.specs.Tree.{CollectedTrees, no_collected, collected}

-- the response keys of an object
abbrev pub keys_of : CollectedTrees → List (List ℕ)
keys_of no_collected = []
keys_of (collected key h below others) = key ∷ keys_of others

-- at most 50 in each object below some fields, and in the object of these fields too
abbrev pub narrow_below : CollectedTrees → Bool
narrow_below no_collected = true
narrow_below (collected key h below others) = (nat_le (length (keys_of below)) 50 && narrow_below below) && narrow_below others

abbrev pub is_narrow : CollectedTrees → Bool
is_narrow fs = nat_le (length (keys_of fs)) 50 && narrow_below fs

-- they differ in each object below some fields, and in the object of these fields too
abbrev pub distinct_below : CollectedTrees → Bool
distinct_below no_collected = true
distinct_below (collected key h below others) = (all_differ bytes_eq (keys_of below) && distinct_below below) && distinct_below others

abbrev pub is_distinct : CollectedTrees → Bool
is_distinct fs = all_differ bytes_eq (keys_of fs) && distinct_below fs

-- how deep fields stand in one another
abbrev pub levels_of : CollectedTrees → ℕ
levels_of no_collected = 0
levels_of (collected key h below others) = max (suc (levels_of below)) (levels_of others)
