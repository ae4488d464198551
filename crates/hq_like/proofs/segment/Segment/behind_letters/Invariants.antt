use Rattle.std.proofs.Common.{◌≡◌, ◌≤◌, ◌++◌, List, false, length, take}
use denote.Text.{Utf8}
use denote.Shadow.{shadow}
use Rattle.hq_base.specs.Patterns.{meets, some_end}
use Rattle.hq_base.specs.declared.pattern.Step.{Step}
use Rattle.hq_like.specs.Reading.{read}
use Rattle.hq_like.specs.Segments.{with_segment}
use Rattle.hq_like.proofs.segment.Segment.behind_letters.Given as goal

-- what counts of the text are so many first letters and what is left
abbrev pub invariant-letters : goal.invariant-letters
invariant-letters l =
    shadow (Utf8 l.left) × (l.state ≤ length l.self.letters.items)
    × ((later : List Step) → some_end (meets false (with_segment l.self later)) (read l.fold l.text)
    ≡ some_end (meets false (with_segment l.self later)) (take l.state l.self.letters.items ++ read l.fold l.left))

abbrev pub decreases-letters : goal.decreases-letters
decreases-letters l = length (read l.fold l.left)
