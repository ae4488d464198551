use Rattle.std.proofs.Common.{◌≡◌, map, take}
use Rattle.hq_sql_cells.specs.View.{cell_view}
use Rattle.hq_model.specs.Truth.{operand_cell}
use Rattle.hq_copy_filter.proofs.truths.cells_of.Given as goal

abbrev pub invariant-loop-operand : goal.invariant-loop-operand
invariant-loop-operand l = map cell_view l.cells.items ≡ map operand_cell (take l.operand-index l.operands)
