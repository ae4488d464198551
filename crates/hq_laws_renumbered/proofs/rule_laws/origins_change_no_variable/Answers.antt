-- Each variable is coerced to the same.
use Rattle.hq_laws_renumbered.proofs.Rules.Coerced.{same_variables}
use Rattle.hq_laws_renumbered.proofs.rule_laws.origins_change_no_variable.Goals as goal

pub returns : goal.returns
returns c = same_variables
