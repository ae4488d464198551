use Rattle.hq_laws_isolation.proofs.Sessions.{worlds_agree as the_law}
use Rattle.hq_laws_isolation.proofs.laws.worlds_agree.Goals as goal

pub returns : goal.returns
returns c = the_law
