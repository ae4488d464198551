use Rattle.std.proofs.Common.{◌≡◌, List, false, length}
use denote.Text.{Utf8}
use denote.Shadow.{shadow}
use Rattle.hq_base.specs.Patterns.{meets, some_end}
use Rattle.hq_base.specs.declared.pattern.Step.{Step}
use Rattle.hq_like.specs.Reading.{read}
use Rattle.hq_like.specs.Segments.{tail_then}
use Rattle.hq_like.proofs.seeking.behind_places.Given as goal

abbrev pub invariant-ends : goal.invariant-ends
invariant-ends l =
    shadow (Utf8 l.left)
    × ((later : List Step) → some_end (meets false (tail_then l.places later)) (read l.fold l.text) ≡ some_end (meets false (tail_then l.places later)) (read l.fold l.left))

abbrev pub decreases-ends : goal.decreases-ends
decreases-ends l = length (read l.fold l.left)
