use Rattle.std.proofs.Common.{◌∙◌, sym}
use Rattle.hq_copy_filter.proofs.RowCells.{cell_there, cell_beyond}
use Rattle.hq_copy_filter.proofs.cells.cell_at.Goals as goal

pub returns-in-Some : goal.returns-in-Some
returns-in-Some c = c.of.ensures ∙ sym (cell_there c.args.row.now c.at.result c.args.column c.in-Some.value.now c.at.ensures c.in-Some.ensures.lookup.3.0 c.in-Some.ensures.lookup.1)

pub returns-in-None : goal.returns-in-None
returns-in-None c = sym (cell_beyond c.args.row.now c.at.result c.args.column c.at.ensures c.in-None.ensures.lookup.3)
