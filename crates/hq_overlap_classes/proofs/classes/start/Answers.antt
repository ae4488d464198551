-- No field is noted yet.
use Rattle.std.proofs.Common.{nat_eq, ◌&&◌}
use Rattle.hq_overlap_classes.proofs.Joining.{nothing_noted}
use Rattle.hq_overlap_classes.proofs.classes.start.Goals as goal

pub returns : goal.returns
returns c = record {
  partition = c.in_ok-sets.ensures;
  firsts = λ d k e h. absurd (nothing_noted c.new-2.result (λ x y. nat_eq x.0 y.0 && nat_eq x.1 y.1) (d, k) e c.new-2.ensures.empty h);
}
