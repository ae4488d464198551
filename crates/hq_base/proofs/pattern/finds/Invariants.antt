use Rattle.std.proofs.Common.{◌≡◌, ◌+◌, length}
use denote.Text.{Utf8}
use denote.Shadow.{shadow}
use Rattle.std.specs.Str.{chars}
use Rattle.hq_base.specs.Patterns.{some_end, meets}
use Rattle.hq_base.proofs.pattern.finds.Given as goal

abbrev pub invariant-loop-rest : goal.invariant-loop-rest
invariant-loop-rest l =
    shadow (Utf8 l.text) × (some_end (meets l.fold l.fn.steps) (chars l.fn.text) ≡ some_end (meets l.fold l.steps) (chars l.text))

abbrev pub decreases-loop-rest : goal.decreases-loop-rest
decreases-loop-rest l = length l.steps + length (chars l.text)
