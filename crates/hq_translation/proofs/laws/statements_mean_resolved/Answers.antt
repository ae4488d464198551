use Rattle.hq_translation.proofs.Meaning.{means_resolved}
use Rattle.hq_translation.proofs.laws.statements_mean_resolved.Goals as goal

pub returns : goal.returns
returns c = means_resolved
