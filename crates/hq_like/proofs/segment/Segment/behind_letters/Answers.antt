use Rattle.std.proofs.Common.{◌∙◌}
use Rattle.hq_like.specs.Reading.{read}
use Rattle.hq_like.specs.Segments.{tail_then}
use Rattle.hq_like.proofs.Searches.{letters_end}
use Rattle.hq_like.proofs.segment.Segment.behind_letters.Goals as goal

pub returns-in-None : goal.returns-in-None
returns-in-None c =
    let s = c.args.self.now in
    λ later. c.letters.invariant.2 later ∙ c.in-Reading.ensures.1 later
    ∙ letters_end s.letters.items (tail_then s.tail.items later) c.in-Reading.reading (read c.args.fold c.letters.left.now) c.in-None.ensures c.in-Reading.ensures.0
