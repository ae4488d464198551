use Rattle.hq_translation.proofs.Aliases.{aliases_differ}
use Rattle.hq_translation.proofs.laws.aliases_differ.Goals as goal

pub returns : goal.returns
returns c = aliases_differ
