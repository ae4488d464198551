use Rattle.hq_load_index.specs.Grids.{rows_in}
use Rattle.hq_load_index.specs.Indexes.{by_key}
use Rattle.hq_load_index.proofs.Ascending.{StepsAscend}
use Rattle.hq_load_index.proofs.build.are_sorted.Given as goal

abbrev pub invariant-loop-at : goal.invariant-loop-at
invariant-loop-at l = StepsAscend (by_key l.columns (rows_in l.grid)) 0 l.at
