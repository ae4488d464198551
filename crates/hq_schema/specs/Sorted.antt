-- The places of names, in the order of the names.
use Rattle.std.specs.Prelude.{ℕ, ◌+◌, List, [], ◌∷◌, map, length, slice_index_or}
use Rattle.std.specs.Cmp.Lexicographic.{slice_cmp}
use Rattle.std.specs.List.{range_with_len}
use Rattle.std.specs.Ordering.{nat_cmp, on}
use Rattle.std.specs.declared.cmp.Ordering.{Ordering}
use Rattle.hq_base.specs.Lists.{sort}

-- the name at a place, empty beyond the last
abbrev pub name_at : (names : List (List ℕ)) → ℕ → List ℕ
name_at names i = slice_index_or names i []

-- places are compared by the names at them, byte by byte
abbrev pub by_name : (names : List (List ℕ)) → ℕ → ℕ → Ordering
by_name names = on (name_at names) (slice_cmp nat_cmp)

-- the places in ascending order of the names, of equal names the first place first
unfoldable pub places_by_name : (names : List (List ℕ)) → List ℕ
places_by_name names = sort (by_name names) (range_with_len 0 (length names))

-- names with their places, from a place on
abbrev pub numbered : (place : ℕ) → List (List ℕ) → List (List ℕ × ℕ)
numbered place [] = []
numbered place (name ∷ names) = (name, place) ∷ numbered (place + 1) names

-- the places of such names in ascending order of the names, of equal names the first first
abbrev pub places_of : List (List ℕ × ℕ) → List ℕ
places_of named = map (λ (n : List ℕ × ℕ). n.1) (sort (on (λ (n : List ℕ × ℕ). n.0) (slice_cmp nat_cmp)) named)
