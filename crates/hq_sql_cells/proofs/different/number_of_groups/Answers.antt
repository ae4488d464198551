use Rattle.std.proofs.Common.{rules, option_map}
use Rattle.hq_sql_cells.specs.View.{cell_view}
use Rattle.hq_sql_cells.proofs.Groups.{groups_end}
use Rattle.hq_sql_cells.proofs.different.number_of_groups.Goals as goal

pub returns : goal.returns
returns c = groups_end c.loop-cell.number c.loop-cell.cell-index (option_map (λ cell. cell_view cell.now) c.loop-cell.last) c.args.cells.now (search rules) c.loop-cell.invariant.0 c.requires
