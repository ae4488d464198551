use Rattle.std.proofs.Common.{◌≡◌, ◌++◌, take}
use Rattle.hq_sql_scans.specs.ChosenKeys.{picked}
use Rattle.hq_sql_scans.proofs.key_set.push_cells.Given as goal

-- the cells of the columns so far
abbrev pub invariant-loop-column : goal.invariant-loop-column
invariant-loop-column l = l.values.items ≡ l.fn.values.items ++ picked (take l.column-index l.columns) l.row
