use Rattle.std.proofs.Common.{subst}
use Rattle.std.proofs.lemmas.List.{take_all}
use Rattle.hq_sql_output.specs.Elements.{AreSteady}
use Rattle.hq_sql_output.proofs.elements.has_other.Goals as goal

pub returns : goal.returns
returns c = λ _. subst AreSteady (take_all c.loop-member.member-index c.args.members.now c.loop-member-test.false) c.loop-member.invariant
