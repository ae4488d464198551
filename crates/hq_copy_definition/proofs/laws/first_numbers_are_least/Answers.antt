use Rattle.hq_copy_definition.proofs.Numbers.{first_from_is}
use Rattle.hq_copy_definition.proofs.laws.first_numbers_are_least.Goals as goal

pub returns : goal.returns
returns c = first_from_is
