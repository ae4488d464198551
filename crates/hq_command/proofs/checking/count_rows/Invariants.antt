use Rattle.std.proofs.Common.{◌≡◌, ◌≤◌, ◌+◌, ◌*◌, ◌^◌, drop}
use Rattle.hq_command.specs.Check.{rows_in}
use Rattle.hq_command.proofs.checking.count_rows.Given as goal

-- the rows so far, and those of the tables that are left, are all; each table has fewer than 2 ^ 31
abbrev pub invariant-loop-rows : goal.invariant-loop-rows
invariant-loop-rows l = record {
  same : l.count + rows_in (drop l.rows-index l.all) ≡ rows_in l.all;
  few : l.count ≤ l.rows-index * 2 ^ 31;
}
