use Rattle.std.proofs.Common.{◌≡◌, ◌-◌, ◌≤◌, ◌<◌, ℕ, false, length}
use Rattle.hq_load_pages.specs.Pins.{is_pinned}
use Rattle.hq_load_pages.proofs.paged_tables.clear.Given as goal

-- the places so far have no rows
abbrev pub invariant-places : goal.invariant-places
invariant-places l = record {
  within : l.at ≤ length l.pins.items;
  places : length l.pins.items ≡ length l.fn.pins.items;
  none : (u : ℕ) → u < l.at → is_pinned l.pins.items u ≡ false;
}

abbrev pub decreases-places : goal.decreases-places
decreases-places l = length l.pins.items - l.at
