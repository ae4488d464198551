use Rattle.std.proofs.Common.{ℕ, ◌<◌}
use Rattle.hq_confine_uses.specs.Views.{rules_schema, rules_grants}
use Rattle.hq_confine.specs.Written.{IsWritten}
use Rattle.hq_confine.proofs.numbers.write_grants.Given as goal

-- what is granted of the tables so far can be written
abbrev pub invariant-loop-t : goal.invariant-loop-t
invariant-loop-t l = (k : ℕ) → k < l.t → IsWritten (rules_schema l.rules) (rules_grants l.rules) k
