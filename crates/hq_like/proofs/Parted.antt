-- A pattern cut at its %.
use Rattle.std.proofs.Common.{◌≡◌, ◌∙◌, refl, ap, ℕ, List, [], ◌∷◌, ◌++◌, false, Option}
use Rattle.std.specs.Option.{option_map_or}
use Rattle.hq_base.specs.Patterns.{meets}
use Rattle.hq_base.specs.declared.pattern.Step.{Step}
use Rattle.hq_like.specs.Parts.{joined}
use Rattle.hq_like.specs.Places.{after_places, places_view}
use Rattle.hq_like.specs.declared.places.Place.{Place}
use Rattle.hq_like.proofs.Searches.{places_then}
use Rattle.hq_like.specs.Segments.{with_segment}
use Rattle.hq_like.specs.declared.segment.Segment.{Segment}

-- one segment more behind the others
pub joined_more : (ss : List Segment) (s : Segment) (last : List Step) → joined (ss ++ s ∷ []) last ≡ joined ss (with_segment s last)
joined_more [] s last = refl
joined_more (t ∷ ss) s last = ap (with_segment t) (joined_more ss s last)

-- what a text is behind its front
pub parted : (front : List Place) (more : List Step) (text : List ℕ) (o : Option (List ℕ)) → after_places front text ≡ o
    → meets false (places_view front ++ more) text ≡ option_map_or (meets false more) o false
parted front more text o is = places_then front more text ∙ ap (λ p. option_map_or (meets false more) p false) is
