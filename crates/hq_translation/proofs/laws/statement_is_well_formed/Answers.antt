use Rattle.hq_translation.proofs.WellFormed.{is_well_formed}
use Rattle.hq_translation.proofs.laws.statement_is_well_formed.Goals as goal

pub returns : goal.returns
returns c = is_well_formed
