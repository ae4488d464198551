-- One key, and two shapes.
use Rattle.std.proofs.Common.{rules, inl}
use Rattle.hq_overlap_classes.proofs.Joining.{shape_apart}
use Rattle.hq_overlap_classes.proofs.disputes.differs_in_shape.Goals as goal

pub returns : goal.returns
returns c = λ held. (search rules, inl (shape_apart _ _ c.same_shape.result c.same_shape.ensures held))
