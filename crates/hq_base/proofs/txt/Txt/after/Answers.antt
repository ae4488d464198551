use Rattle.hq_base.proofs.TextLemmas.{has_zero-after}
use Rattle.hq_base.proofs.txt.Txt.after.Goals as goal

pub invariant_of-result : goal.invariant_of-result
invariant_of-result c =
    rw c.in_ok-text.ensures.ok (has_zero-after c.args.front.now c.as_str.result.now c.in-Some.rest.now (rw c.as_str.ensures.value c.self.invariant) c.in-Some.ensures)
