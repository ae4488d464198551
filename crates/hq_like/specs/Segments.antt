-- The parts of a pattern between its %.
use Rattle.std.specs.Prelude.{◌≡◌, ℕ, ◌<◌, List, [], ◌∷◌, ◌++◌, Bool, false, Option, Some, None, option_map, take, length}
use Rattle.std.specs.Borrow.{Bor}
use Rattle.hq_base.specs.Patterns.{meets, some_end}
use Rattle.hq_base.specs.declared.pattern.Step.{Step}
use Rattle.hq_base.specs.declared.pattern.Step.TheVariants.{Any}
use Rattle.hq_like.specs.Backs.{letters_then}
use Rattle.hq_like.specs.Places.{places_view}
use Rattle.hq_like.specs.Reading.{read}
use Rattle.hq_like.specs.declared.places.Place.{Place}
use Rattle.hq_like.specs.declared.segment.Segment.{Segment}
use Rattle.hq_like.specs.declared.seeking.Seen.{Seen}
use Rattle.hq_like.specs.declared.seeking.Seen.TheVariants.{Met, Reading}

-- places, and behind a % these steps
abbrev pub tail_then : List Place → List Step → List Step
tail_then places later = places_view places ++ Any ∷ later

-- a segment, and behind a % these steps
abbrev pub with_segment : Segment → List Step → List Step
with_segment s later = letters_then s.letters.items (tail_then s.tail.items later)

-- a segment has these places
abbrev pub IsSegment : List Place → Segment → Type 0
IsSegment places s = (later : List Step) → with_segment s later ≡ tail_then places later

-- a text that is left, as it is compared
abbrev pub rest_read : (fold : Bool) → Option (Bor (List ℕ)) → Option (List ℕ)
rest_read fold = option_map (λ rest. read fold rest.now)

-- where a segment is first met in a text, what follows it is what counts of the text
abbrev pub Seeks : (List Step → List Step) → (text : List ℕ) → Option (List ℕ) → Type 0
Seeks before text None = (later : List Step) → some_end (meets false (before later)) text ≡ false
Seeks before text (Some rest) = (later : List Step) → some_end (meets false (before later)) text ≡ some_end (meets false later) rest

-- what counts of so many first letters and the text behind them
abbrev pub Sees : Segment → (state : ℕ) → (text : List ℕ) → (fold : Bool) → Seen → Type 0
Sees s state text fold (Met rest) =
    (later : List Step) → some_end (meets false (with_segment s later)) (take state s.letters.items ++ text) ≡ some_end (meets false later) (read fold rest.now)
Sees s state text fold (Reading reading) =
    (reading < length s.letters.items) × ((later : List Step) → some_end (meets false (with_segment s later)) (take state s.letters.items ++ text)
    ≡ some_end (meets false (with_segment s later)) (take reading s.letters.items ++ text))
