use Rattle.std.proofs.Common.{◌≡◌, map, take}
use Rattle.hq_load_catalog.specs.Resolved.{settled}
use Rattle.hq_load_catalog.proofs.resolve.settled.Given as goal

-- the columns so far
abbrev pub invariant-loop-column : goal.invariant-loop-column
invariant-loop-column l = l.copy ≡ map (settled l.key) (take l.column-index l.columns)
