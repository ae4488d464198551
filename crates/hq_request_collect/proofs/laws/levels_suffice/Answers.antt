use Rattle.hq_request_collect.proofs.Enough.{levels_suffice}
use Rattle.hq_request_collect.proofs.laws.levels_suffice.Goals as goal

pub returns : goal.returns
returns c = levels_suffice
