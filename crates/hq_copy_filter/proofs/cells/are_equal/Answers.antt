use Rattle.std.proofs.Common.{◌∙◌, sym, ap}
use Rattle.hq_model.specs.Logic.{equal, is_true}
use Rattle.hq_model.specs.Seen.{row_cell}
use Rattle.hq_copy_filter.proofs.RowCells.{cell_there, cell_beyond, null_equals}
use Rattle.hq_copy_filter.proofs.cells.are_equal.Goals as goal

pub returns-in-Some : goal.returns-in-Some
returns-in-Some c =
    let own = row_cell c.args.row.now c.args.pair.own in
    c.equals_cell.ensures
    ∙ ap (λ d. is_true (equal d own))
    (sym
    (cell_there c.args.far.now c.at.result c.args.pair.remote c.in-Some.value.now c.at.ensures c.in-Some.ensures.lookup.3.0
    c.in-Some.ensures.lookup.1))

pub returns-in-None : goal.returns-in-None
returns-in-None c =
    let own = row_cell c.args.row.now c.args.pair.own in
    sym (ap (λ d. is_true (equal d own)) (cell_beyond c.args.far.now c.at.result c.args.pair.remote c.at.ensures c.in-None.ensures.lookup.3) ∙ null_equals own)
