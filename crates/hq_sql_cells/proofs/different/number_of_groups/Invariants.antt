use Rattle.std.proofs.Common.{◌≡◌, ◌≤◌, ◌+◌, map, filter, length, drop, option_map, None}
use Rattle.hq_base.specs.Aggregates.{is_taken}
use Rattle.hq_base.specs.Cells.{same_cell}
use Rattle.hq_sql_cells.specs.View.{cell_view}
use Rattle.hq_sql_cells.proofs.Groups.{pass_from}
use Rattle.hq_sql_cells.proofs.different.number_of_groups.Given as goal

-- the groups so far, and those that one pass finds from here on
abbrev pub invariant-loop-cell : goal.invariant-loop-cell
invariant-loop-cell l =
    (l.number + length (pass_from same_cell (option_map (λ c. cell_view c.now) l.last) (filter is_taken (map cell_view (drop l.cell-index l.cells))))
    ≡ length (pass_from same_cell None (filter is_taken (map cell_view l.cells))))
    × (l.number ≤ l.cell-index)
