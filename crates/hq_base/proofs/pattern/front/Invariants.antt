use Rattle.std.proofs.Common.{◌≡◌, length}
use denote.Text.{Utf8}
use denote.Shadow.{shadow}
use Rattle.std.specs.Str.{chars}
use Rattle.hq_base.specs.Fronts.{front}
use Rattle.hq_base.proofs.pattern.front.Given as goal

abbrev pub invariant-loop-steps : goal.invariant-loop-steps
invariant-loop-steps l = shadow (Utf8 l.text) × (front l.fold l.fn.steps (chars l.fn.text) ≡ front l.fold l.steps (chars l.text))

abbrev pub decreases-loop-steps : goal.decreases-loop-steps
decreases-loop-steps l = length l.steps
