use Rattle.std.proofs.Common.{rules, ◌∙◌, sym}
use Rattle.hq_session.proofs.Ends.{blank_taken_at_end}
use Rattle.hq_session.proofs.blanks.without_back.Goals as goal

pub loop-next-preserved : goal.loop-next-preserved
loop-next-preserved c =
    let taken = blank_taken_at_end c.loop-next.rest.now c.in-Some.next.now c.in-Some.ensures in
    record {
      same = sym taken.0 ∙ c.loop-next.invariant.same;
      utf8 = search rules;
      clean = taken.2 c.loop-next.invariant.clean;
    }
