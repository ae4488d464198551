use Rattle.hq_translation.proofs.Typed.{statement_typed}
use Rattle.hq_translation.proofs.laws.statement_is_typed.Goals as goal

pub returns : goal.returns
returns c = statement_typed
