use Rattle.hq_laws_confine.proofs.Meaning.Theorem.{means_the_same}
use Rattle.hq_laws_confine.proofs.meaning_laws.confined_statements_mean_the_same.Goals as goal

pub returns : goal.returns
returns c = λ tables meta g d e statement. means_the_same tables meta g d e statement
