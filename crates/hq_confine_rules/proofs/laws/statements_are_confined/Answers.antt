use Rattle.hq_confine_rules.proofs.Fields.{statement_confined}
use Rattle.hq_confine_rules.proofs.laws.statements_are_confined.Goals as goal

pub returns : goal.returns
returns c = λ fields schema grants allowed bound. statement_confined schema grants fields allowed bound
