use Rattle.std.proofs.Common.{◌≡◌, ◌≤◌, map, filter, length, take}
use Rattle.hq_base.specs.Aggregates.{is_counted}
use Rattle.hq_sql_cells.specs.View.{cell_view}
use Rattle.hq_sql_cells.proofs.aggregate.number_counted.Given as goal

-- those so far
abbrev pub invariant-loop-cell : goal.invariant-loop-cell
invariant-loop-cell l = (l.number ≡ length (filter is_counted (map cell_view (take l.cell-index l.cells)))) × (l.number ≤ l.cell-index)
