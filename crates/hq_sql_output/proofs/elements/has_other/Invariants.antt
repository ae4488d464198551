use Rattle.std.proofs.Common.{take}
use Rattle.hq_sql_output.specs.Elements.{AreSteady}
use Rattle.hq_sql_output.proofs.elements.has_other.Given as goal

abbrev pub invariant-loop-member : goal.invariant-loop-member
invariant-loop-member l = AreSteady (take l.member-index l.members)
