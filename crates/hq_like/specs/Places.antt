-- Places of a pattern between two %.
use Rattle.std.specs.Prelude.{ℕ, ◌==◌, List, [], ◌∷◌, map, Bool, true, Option, Some, None, if◌then◌else◌}
use Rattle.hq_base.specs.declared.pattern.Step.{Step}
use Rattle.hq_base.specs.declared.pattern.Step.TheVariants as step
use Rattle.hq_like.specs.declared.places.Place.{Place}
use Rattle.hq_like.specs.declared.places.Place.TheVariants.{One, This}

-- a place is a step of the pattern
abbrev pub place_view : Place → Step
place_view One = step.One
place_view (This c) = step.This c

abbrev pub places_view : List Place → List Step
places_view = map place_view

-- the letter may stand at the place
abbrev pub fits : Place → ℕ → Bool
fits One c = true
fits (This d) c = d == c

-- what is behind the places, where the letters begin with what they ask for
abbrev pub after_places : List Place → List ℕ → Option (List ℕ)
after_places [] cs = Some cs
after_places (p ∷ ps) [] = None
after_places (p ∷ ps) (c ∷ cs) = if fits p c then after_places ps cs else None
