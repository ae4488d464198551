use Rattle.hq_live.proofs.Apart.{apart}
use Rattle.hq_live.proofs.laws.others_change_nothing.Goals as goal

pub returns : goal.returns
returns c = apart
