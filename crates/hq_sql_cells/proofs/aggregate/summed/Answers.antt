use Rattle.std.proofs.Common.{◌≡◌, ◌∙◌, ◌+◌, ◌∷◌, Some, drop, map, sym, ap, rules}
use Rattle.hq_sql_tree.proofs.Next.{next_item}
use Rattle.hq_base.specs.Cells.{int_in}
use Rattle.hq_sql_cells.specs.Totals.{total_after}
use Rattle.hq_sql_cells.specs.View.{cell_view}
use Rattle.hq_sql_cells.proofs.Sums.{sum_taken, sum_passed}
use Rattle.hq_sql_cells.proofs.aggregate.summed.Goals as goal
use Rattle.hq_sql_cells.proofs.aggregate.summed.Goals.{then-is_taken+in_ok-total_after, else-is_taken}

pub loop-cell-preserved : goal.loop-cell-preserved
loop-cell-preserved c =
    let cells = c.args.cells.now in
    let i = c.loop-cell.cell-index in
    let cell = c.cell-item.result in
    let sum = c.loop-cell.sum in
    let split : map cell_view (drop i cells) ≡ cell_view cell ∷ map cell_view (drop (i + 1) cells) = ap (map cell_view) (next_item cells i cell c.loop-cell-test.true c.cell-item.is) in
    elim c.if-is_taken.branch [
      | then-is_taken+in_ok-total_after w ↦
          let more : c.if-is_taken.sum ≡ Some (total_after sum (int_in (cell_view cell))) = search rules in
          sum_taken sum c.if-is_taken.sum (cell_view cell) _ _ _ _ split (sym c.is_taken.ensures ∙ w.if-is_taken.true) more c.loop-cell.invariant
      | else-is_taken w ↦ sum_passed sum c.if-is_taken.sum (cell_view cell) _ _ _ _ split (sym c.is_taken.ensures ∙ w.if-is_taken.false) w.sum-is c.loop-cell.invariant
    ]
