use Rattle.std.proofs.Common.{◌≡◌, ◌≤◌, ◌+◌, length, drop, None}
use Rattle.hq_sql_cells.specs.Totals.{same_number}
use Rattle.hq_sql_cells.proofs.Groups.{pass_from}
use Rattle.hq_sql_cells.proofs.different.number_of_runs.Given as goal

-- the runs so far, and those that one pass finds from here on
abbrev pub invariant-loop-next : goal.invariant-loop-next
invariant-loop-next l = (l.number + length (pass_from same_number l.last (drop l.next-index l.numbers)) ≡ length (pass_from same_number None l.numbers)) × (l.number ≤ l.next-index)
