use Rattle.hq_copy_definition.proofs.Numbers.{relationship_numbered}
use Rattle.hq_copy_definition.proofs.laws.numbers_link.Goals as goal

pub returns : goal.returns
returns c = relationship_numbered
