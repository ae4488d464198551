use Rattle.std.proofs.Common.{◌≡◌, map, filter, take}
use Rattle.hq_base.specs.Aggregates.{is_taken}
use Rattle.hq_base.specs.Cells.{int}
use Rattle.hq_sql_cells.specs.View.{cell_view}
use Rattle.hq_sql_cells.proofs.different.numbers_of.Given as goal

-- those so far
abbrev pub invariant-loop-cell : goal.invariant-loop-cell
invariant-loop-cell l = map int l.numbers.items ≡ filter is_taken (map cell_view (take l.cell-index l.cells))
