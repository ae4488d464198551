use Rattle.std.proofs.Common.{◌∙◌, sym, ap}
use Rattle.hq_base.specs.Cells.{cell_of}
use Rattle.hq_model.specs.Logic.{equal, is_true}
use Rattle.hq_copy_filter.specs.Equal.{is_equal}
use Rattle.hq_copy_filter.proofs.RowCells.{cell_there, cell_beyond, equal_values, none_equals}
use Rattle.hq_copy_filter.proofs.cells.equals_cell.Goals as goal

pub returns-in-Some : goal.returns-in-Some
returns-in-Some c =
    let v = c.args.value.now in
    let own = c.in-Some.own.now in
    c.is_equal.ensures ∙ ap is_equal c.compare.ensures ∙ equal_values v own
    ∙ ap (λ d. is_true (equal (cell_of v) d)) (sym (cell_there c.args.row.now c.at.result c.args.column own c.at.ensures c.in-Some.ensures.lookup.3.0 c.in-Some.ensures.lookup.1))

pub returns-in-None : goal.returns-in-None
returns-in-None c =
    let v = c.args.value.now in
    sym (ap (λ d. is_true (equal (cell_of v) d)) (cell_beyond c.args.row.now c.at.result c.args.column c.at.ensures c.in-None.ensures.lookup.3) ∙ none_equals (cell_of v))
