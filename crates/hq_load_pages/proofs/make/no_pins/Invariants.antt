use Rattle.std.proofs.Common.{◌≡◌, ◌-◌, ◌≤◌, ℕ, false, length}
use Rattle.hq_load_pages.specs.Pins.{is_pinned}
use Rattle.hq_load_pages.proofs.make.no_pins.Given as goal

-- no place so far has rows
abbrev pub invariant-places : goal.invariant-places
invariant-places l = record {
  within : length l.pins.items ≤ l.count;
  none : (t : ℕ) → is_pinned l.pins.items t ≡ false;
}

abbrev pub decreases-places : goal.decreases-places
decreases-places l = l.count - length l.pins.items
