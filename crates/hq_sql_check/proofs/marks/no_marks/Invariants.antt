use Rattle.std.proofs.Common.{◌≡◌, ℕ, false, length}
use Rattle.std.specs.Prelude.{slice_index_or}
use Rattle.hq_sql_check.proofs.marks.no_marks.Given as goal

-- so many marks are there, and none is set
abbrev pub invariant-loop : goal.invariant-loop
invariant-loop l = record {
  count : length l.marks.items ≡ l.counter;
  none : (t : ℕ) → slice_index_or l.marks.items t false ≡ false;
}
