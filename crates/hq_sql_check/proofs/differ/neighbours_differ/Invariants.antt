use Rattle.std.proofs.Common.{◌≡◌, length, bytes_eq}
use Rattle.hq_sql_check.specs.Scopes.{texts, neighbours_differ}
use Rattle.hq_sql_check.proofs.differ.neighbours_differ.Given as goal

-- those that are left tell what all do
abbrev pub invariant-loop-rest : goal.invariant-loop-rest
invariant-loop-rest l = neighbours_differ bytes_eq (texts l.rest) ≡ neighbours_differ bytes_eq (texts l.names)

abbrev pub decreases-loop-rest : goal.decreases-loop-rest
decreases-loop-rest l = length l.rest
