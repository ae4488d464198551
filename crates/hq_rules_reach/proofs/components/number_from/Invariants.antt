use Rattle.std.proofs.Common.{◌≡◌, length}
use Rattle.hq_rules_reach.proofs.components.number_from.Given as goal

-- there are as many numbers
abbrev pub invariant-loop : goal.invariant-loop
invariant-loop l = length l.numbers.items ≡ length l.initial.numbers.items
