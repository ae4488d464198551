use Rattle.std.proofs.Common.{◌≡◌, length}
use Rattle.hq_like.specs.Parts.{joined}
use Rattle.hq_like.specs.Signs.{signs_view}
use Rattle.hq_like.proofs.parts.segments.Given as goal

abbrev pub invariant-segments : goal.invariant-segments
invariant-segments l = signs_view l.fn.signs ≡ joined l.middle.items (signs_view l.left)

abbrev pub decreases-segments : goal.decreases-segments
decreases-segments l = length l.left
