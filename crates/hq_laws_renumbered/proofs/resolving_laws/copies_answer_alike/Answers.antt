use Rattle.hq_laws_renumbered.proofs.Resolving.Answers.{answered_alike}
use Rattle.hq_laws_renumbered.proofs.resolving_laws.copies_answer_alike.Goals as goal

pub returns : goal.returns
returns c = answered_alike
