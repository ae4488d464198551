-- What is kept has the same answer.
use Rattle.hq_overlap_classes.proofs.Sifting.{first_still}
use Rattle.hq_overlap_classes.proofs.laws.sifting_keeps_the_answer.Goals as goal

pub returns : goal.returns
returns c = λ n sets kept place known are_kept first. first_still n sets kept are_kept known place first
