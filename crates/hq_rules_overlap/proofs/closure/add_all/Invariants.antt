use Rattle.std.proofs.Common.{take}
use Rattle.hq_rules_overlap.specs.Groups.{Grows}
use Rattle.hq_rules_overlap.proofs.closure.add_all.Given as goal

-- the numbers so far are added
abbrev pub invariant-loop-number : goal.invariant-loop-number
invariant-loop-number l = Grows (take l.number-index l.numbers) l.initial.list.items l.list.items
