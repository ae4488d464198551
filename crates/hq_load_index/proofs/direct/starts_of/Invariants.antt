use Rattle.hq_load_index.specs.Grids.{rows_in}
use Rattle.hq_load_index.proofs.Starts.{BeginUpTo}
use Rattle.hq_load_index.proofs.direct.starts_of.Given as goal

abbrev pub invariant-loop-place : goal.invariant-loop-place
invariant-loop-place l = BeginUpTo l.column (rows_in l.grid) l.entries l.least l.starts.items l.place
