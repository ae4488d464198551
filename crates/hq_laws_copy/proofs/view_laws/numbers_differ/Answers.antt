use Rattle.hq_laws_copy.proofs.Views.Numbers.{one_to_one}
use Rattle.hq_laws_copy.proofs.view_laws.numbers_differ.Goals as goal

pub returns : goal.returns
returns c = one_to_one
