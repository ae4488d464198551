use Rattle.std.proofs.Common.{◌≡◌, ◌∙◌, [], ◌∷◌, sym, ap, map, arith}
use Rattle.std.proofs.lemmas.List.{nil_from_length}
use Rattle.std.specs.Vec.Iter.{into_iter_items}
use Rattle.hq_sql_cells.specs.View.{cell_view}
use Rattle.hq_sql_cells.proofs.BestOnes.{best_in, best_last, best_replaced, best_stays}
use Rattle.hq_sql_cells.proofs.aggregate.best_of.Goals as goal

pub loop-cell-preserved-then-is_better : goal.loop-cell-preserved-then-is_better
loop-cell-preserved-then-is_better c =
    best_replaced c.args.greatest (cell_view c.loop-cell.best) c.in-Some.cell _ _ _ c.in-Some.ensures.steps.0 (sym c.is_better.ensures ∙ c.if-is_better.true) c.loop-cell.invariant

pub loop-cell-preserved : goal.loop-cell-preserved
loop-cell-preserved c =
    best_stays c.args.greatest (cell_view c.loop-cell.best) c.in-Some.cell _ _ _ c.in-Some.ensures.steps.0 (sym c.is_better.ensures ∙ c.if-is_better.false) c.loop-cell.invariant

pub returns : goal.returns
returns c =
    let best = cell_view c.loop-cell.best in
    let none : into_iter_items c.loop-cell.cell-iterator ≡ [] =
    nil_from_length (into_iter_items c.loop-cell.cell-iterator)
    (omega (arith, c.loop-cell.cell-iterator.rest.ok.0, c.in-None.ensures.steps.0)) in
    sym (best_last c.args.greatest best c.loop-cell.invariant.1) ∙ ap (λ cells. best_in c.args.greatest (best ∷ map cell_view cells)) (sym none) ∙ c.loop-cell.invariant.0
