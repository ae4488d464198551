use Rattle.hq_load_index.specs.Grids.{rows_in}
use Rattle.hq_load_index.specs.Repeats.{same_key}
use Rattle.hq_load_index.proofs.Neighbours.{LeastPair}
use Rattle.hq_load_index.proofs.repeats.first_repeat.Given as goal

abbrev pub invariant-loop-at : goal.invariant-loop-at
invariant-loop-at l = LeastPair (same_key l.columns (rows_in l.grid)) l.sorted l.at l.found
