use Rattle.std.proofs.Common.{take}
use Rattle.hq_load_index.specs.Grids.{rows_in}
use Rattle.hq_load_index.specs.Whole.{AreNumbered}
use Rattle.hq_load_index.proofs.whole.with_numbers.Given as goal

abbrev pub invariant-loop-row : goal.invariant-loop-row
invariant-loop-row l = AreNumbered l.column (rows_in l.grid) (take l.row-index l.rows) l.all.items
