use Rattle.std.proofs.Common.{◌≡◌, ◌∷◌, map, true}
use Rattle.std.specs.Vec.Iter.{into_iter_items}
use Rattle.hq_sql_cells.specs.View.{cell_view}
use Rattle.hq_sql_cells.proofs.BestOnes.{best_in, may_be_best}
use Rattle.hq_sql_cells.proofs.aggregate.best_of.Given as goal

-- the best one so far stands for those before it
abbrev pub invariant-loop-cell : goal.invariant-loop-cell
invariant-loop-cell l =
    (best_in l.greatest (cell_view l.best ∷ map cell_view (into_iter_items l.cell-iterator)) ≡ best_in l.greatest (map cell_view l.fn.cells.items))
    × (may_be_best (cell_view l.best) ≡ true)
