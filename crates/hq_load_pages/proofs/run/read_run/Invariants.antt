use Rattle.std.proofs.Common.{◌≡◌, ◌-◌, ◌≤◌, ◌++◌, length}
use Rattle.std.specs.Option.{option_map}
use Rattle.hq_load_pages.specs.Runs.{cells_of, run_of}
use Rattle.hq_load_pages.proofs.run.read_run.Given as goal

-- the values so far, before those of the bytes that are left, are those of all bytes
abbrev pub invariant-cells : goal.invariant-cells
invariant-cells l = record {
  within : length l.values.items ≤ l.count;
  behind : option_map (λ vs. l.values.items ++ vs) (cells_of (l.count - length l.values.items) l.rest) ≡ cells_of l.count l.bytes;
  exact : run_of l.values.items ++ l.rest ≡ l.bytes;
}

abbrev pub decreases-cells : goal.decreases-cells
decreases-cells l = l.count - length l.values.items
