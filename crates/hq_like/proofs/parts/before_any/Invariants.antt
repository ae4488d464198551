use Rattle.std.proofs.Common.{◌≡◌, ◌≤◌, ◌++◌, length}
use Rattle.hq_like.specs.Places.{places_view}
use Rattle.hq_like.specs.Signs.{signs_view}
use Rattle.hq_like.proofs.parts.before_any.Given as goal

abbrev pub invariant-signs : goal.invariant-signs
invariant-signs l = (length l.left ≤ length l.fn.signs) × (signs_view l.fn.signs ≡ places_view l.places.items ++ signs_view l.left)

abbrev pub decreases-signs : goal.decreases-signs
decreases-signs l = length l.left
