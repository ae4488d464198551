use Rattle.std.proofs.Common.{◌-◌, ◌≡◌, ◌+◌, ◌^◌, ◌<◌, ◌≤◌, ℕ, length, map, true, false, get_or}
use Rattle.hq_load_index.specs.Grids.{rows_in}
use Rattle.hq_load_index.specs.Keys.{cell_view}
use Rattle.hq_load_index.specs.Places.{stands_before, EndsWithin}
use Rattle.hq_load_index.proofs.place.first_behind.Given as goal

abbrev pub invariant-loop-low : goal.invariant-loop-low
invariant-loop-low g l = record {
  ordered : l.low ≤ l.high;
  within : l.high ≤ length l.entries;
  above : l.fn.low ≤ l.low;
  before : (i : ℕ) → i < l.low → stands_before l.columns (rows_in l.grid) (map cell_view l.key) l.after (get_or l.entries i 0) ≡ true;
  behind : (i : ℕ) → l.high ≤ i → i < length l.entries → stands_before l.columns (rows_in l.grid) (map cell_view l.key) l.after (get_or l.entries i 0) ≡ false;
  short : length l.entries < 2 ^ 64;
  counted : l.steps ≡ l.initial.steps + l.compared;
  few : (b : ℕ) → length l.entries < 2 ^ b → EndsWithin (l.high - l.low) l.compared b;
}

abbrev pub decreases-loop-low : goal.decreases-loop-low
decreases-loop-low g l = l.high - l.low
