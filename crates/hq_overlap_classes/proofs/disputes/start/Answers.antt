-- Nothing is in dispute yet.
use Rattle.std.proofs.Common.{nat_eq, ◌&&◌}
use Rattle.hq_overlap_classes.proofs.Joining.{nothing_noted, nothing_marked}
use Rattle.hq_overlap_classes.proofs.disputes.start.Goals as goal

pub returns : goal.returns
returns c = record {
  classes = c.in_ok-classes.ensures;
  labels = λ d k p e h. absurd (nothing_noted c.new.result (λ x y. nat_eq x.0 y.0 && nat_eq x.1 y.1 && nat_eq x.2 y.2) (d, k, p) e c.new.ensures.empty h);
  disputed = λ d k h. absurd (nothing_marked c.new-2.result (λ x y. nat_eq x.0 y.0 && nat_eq x.1 y.1) (d, k) c.new-2.ensures.empty h);
}
