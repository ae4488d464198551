use Rattle.hq_translation.proofs.Forms.{statement_form}
use Rattle.hq_translation.proofs.laws.statement_is_grammatical.Goals as goal

pub returns : goal.returns
returns c = statement_form
