use Rattle.std.proofs.Common.{◌≡◌, drop, length}
use Rattle.hq_like.specs.Backs.{letters_then}
use Rattle.hq_like.specs.Places.{places_view}
use Rattle.hq_like.proofs.seeking.letters_of.Given as goal

abbrev pub invariant-loop-place : goal.invariant-loop-place
invariant-loop-place l =
    (length l.letters.items ≡ l.place-index) × (places_view l.places ≡ letters_then l.letters.items (places_view (drop l.place-index l.places)))
