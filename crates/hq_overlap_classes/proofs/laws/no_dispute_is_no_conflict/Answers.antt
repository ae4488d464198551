-- No class is concerned.
use Rattle.hq_overlap_classes.proofs.Sifting.{none_concerned}
use Rattle.hq_overlap_classes.proofs.laws.no_dispute_is_no_conflict.Goals as goal

pub returns : goal.returns
returns c = λ n sets known none. none_concerned n sets known none
