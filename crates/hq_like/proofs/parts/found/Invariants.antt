use Rattle.std.proofs.Common.{◌≡◌, drop, false}
use denote.Text.{Utf8}
use denote.Shadow.{shadow}
use Rattle.hq_base.specs.Patterns.{meets, some_end}
use Rattle.hq_like.specs.Parts.{joined}
use Rattle.hq_like.specs.Places.{places_view}
use Rattle.hq_like.specs.Reading.{read}
use Rattle.hq_like.proofs.parts.found.Given as goal

abbrev pub invariant-loop-segment : goal.invariant-loop-segment
invariant-loop-segment l =
    shadow (Utf8 l.left)
    × (some_end (meets false (joined l.middle (places_view l.last))) (read l.fold l.text) ≡ some_end (meets false (joined (drop l.segment-index l.middle) (places_view l.last))) (read l.fold l.left))
