-- The list of the pages in a cache, the one that was touched last first.
use Rattle.std.specs.Prelude.{◌≡◌, ◌⊎◌, ◌≤◌, ℕ, zero, suc, List, [], ◌∷◌, ◌+◌, nat_eq, cond, take}
use Rattle.std.specs.List.{list_any}

-- the pages without the first entry of this one
abbrev pub without : ℕ → List ℕ → List ℕ
without page [] = []
without page (p ∷ pages) = cond (nat_eq page p) pages (p ∷ without page pages)

-- to touch a page: its number goes first, its earlier entry goes, and the first `room` stay
abbrev pub touched : (page room : ℕ) → List ℕ → List ℕ
touched page room pages = take room (page ∷ without page pages)

-- so many pages from this one on, touched one after the other
abbrev pub touched_from : (first count room : ℕ) → List ℕ → List ℕ
touched_from first zero room pages = pages
touched_from first (suc count) room pages = touched_from (suc first) count room (touched first room pages)

-- a page that is not in the list is read
abbrev pub misses : (page : ℕ) → List ℕ → ℕ
misses page pages = cond (list_any (nat_eq page) pages) 0 1

-- how many of so many pages from this one on were not in the list at their turn
abbrev pub missed_from : (first count room : ℕ) → List ℕ → ℕ
missed_from first zero room pages = 0
missed_from first (suc count) room pages = misses first pages + missed_from (suc first) count room (touched first room pages)

-- the list is as it was, or as after touching the page
abbrev pub StaysOrTouched : (page room : ℕ) → (old new : List ℕ) → Type 0
StaysOrTouched page room old new = (new ≡ old) ⊎ (new ≡ touched page room old)

-- the list is as after touching some of at most so many pages from this one on, in ascending order
abbrev pub TouchesSome : (first most room : ℕ) → (old new : List ℕ) → Type 0
TouchesSome first most room old new = (n : ℕ) × (n ≤ most) × (new ≡ touched_from first n room old)
