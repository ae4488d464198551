-- Each field of introspection answers the same.
use Rattle.hq_laws_renumbered.proofs.Rules.Introspected.{same_answer}
use Rattle.hq_laws_renumbered.proofs.rule_laws.origins_change_no_introspection.Goals as goal

pub returns : goal.returns
returns c = same_answer
