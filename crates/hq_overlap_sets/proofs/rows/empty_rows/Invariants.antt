use Rattle.std.proofs.Common.{◌≡◌, length}
use Rattle.hq_overlap_sets.proofs.RowLemmas.{NoneIn}
use Rattle.hq_overlap_sets.proofs.rows.empty_rows.Given as goal

-- so many rows so far
abbrev pub invariant-loop : goal.invariant-loop
invariant-loop l = record { length : length l.rows.items ≡ l.counter; empty : NoneIn l.rows.items }
