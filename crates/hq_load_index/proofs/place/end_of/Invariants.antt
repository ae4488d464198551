use Rattle.std.proofs.Common.{◌-◌, ◌≡◌, ◌+◌, ◌^◌, ◌<◌, ◌≤◌, ℕ, length, map, true, get_or}
use Rattle.hq_load_index.specs.Grids.{rows_in}
use Rattle.hq_load_index.specs.Keys.{cell_view}
use Rattle.hq_load_index.specs.Places.{stands_before}
use Rattle.hq_load_index.proofs.place.end_of.Given as goal

abbrev pub invariant-loop-compared : goal.invariant-loop-compared
invariant-loop-compared g l = record {
  within : l.end ≤ length l.entries;
  above : l.start ≤ l.end;
  count_is : l.count ≡ length l.entries;
  before : (i : ℕ) → i < l.end → stands_before l.columns (rows_in l.grid) (map cell_view l.key) true (get_or l.entries i 0) ≡ true;
  short : length l.entries < 2 ^ 64;
  counted : l.steps ≡ l.initial.steps + l.compared;
  few : l.compared ≤ 2;
}

abbrev pub decreases-loop-compared : goal.decreases-loop-compared
decreases-loop-compared g l = 2 - l.compared
