use Rattle.hq_translation.proofs.Shallow.{is_shallow}
use Rattle.hq_translation.proofs.laws.statement_is_shallow.Goals as goal

pub returns : goal.returns
returns c = is_shallow
