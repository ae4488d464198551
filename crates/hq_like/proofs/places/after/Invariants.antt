use Rattle.std.proofs.Common.{◌≡◌, drop}
use denote.Text.{Utf8}
use denote.Shadow.{shadow}
use Rattle.hq_like.specs.Places.{after_places}
use Rattle.hq_like.specs.Reading.{read}
use Rattle.hq_like.proofs.places.after.Given as goal

abbrev pub invariant-loop-place : goal.invariant-loop-place
invariant-loop-place l =
    shadow (Utf8 l.rest) × (after_places l.places (read l.fold l.text) ≡ after_places (drop l.place-index l.places) (read l.fold l.rest))
