use Rattle.std.proofs.Common.{◌≡◌, take}
use Rattle.hq_load_index.specs.Grids.{rows_in}
use Rattle.hq_sql_constants.specs.Listed.{values_in}
use Rattle.hq_sql_constants.proofs.keyed.values_in.Given as goal

-- the values of the rows so far
abbrev pub invariant-loop-at : goal.invariant-loop-at
invariant-loop-at l = l.values.items ≡ values_in l.column (take l.at (rows_in l.rows))
