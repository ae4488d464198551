use Rattle.std.proofs.Common.{take}
use Rattle.hq_rules_reach.specs.Summaries.{EachAscends}
use Rattle.hq_rules_reach.proofs.summaries.each_ascends.Given as goal

-- those so far ascend
abbrev pub invariant-loop-uses : goal.invariant-loop-uses
invariant-loop-uses l = EachAscends (take l.uses-index l.all)
