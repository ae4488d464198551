use Rattle.std.proofs.Common.{◌≡◌, map, filter, drop, None}
use Rattle.hq_sql_cells.specs.Totals.{SumsFit}
use Rattle.hq_base.specs.Aggregates.{is_taken, sum_of}
use Rattle.hq_sql_cells.specs.View.{cell_view}
use Rattle.hq_sql_cells.proofs.Sums.{sum_from}
use Rattle.hq_sql_cells.proofs.aggregate.summed.Given as goal

-- the sum so far, and the rest; where each sum on the way fits, those from here on do
abbrev pub invariant-loop-cell : goal.invariant-loop-cell
invariant-loop-cell l =
    (sum_from l.sum (filter is_taken (map cell_view (drop l.cell-index l.cells))) ≡ sum_of (filter is_taken (map cell_view l.cells)))
    × (SumsFit None (filter is_taken (map cell_view l.cells)) → SumsFit l.sum (filter is_taken (map cell_view (drop l.cell-index l.cells))))
