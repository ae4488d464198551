use Rattle.std.proofs.Common.{◌≡◌, length}
use Rattle.hq_rules_reach.proofs.components.components.Given as goal

-- there are as many numbers
abbrev pub invariant-loop-at : goal.invariant-loop-at
invariant-loop-at l = length l.numbers.items ≡ length l.graph
