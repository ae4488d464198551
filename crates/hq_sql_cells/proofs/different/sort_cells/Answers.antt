use Rattle.std.proofs.Common.{rules}
use Rattle.hq_base.proofs.Orders.{cell_cmp_total}
use Rattle.hq_sql_cells.specs.View.{cell_view}
use Rattle.hq_sql_cells.proofs.KeyOrders.{sorted_by_closure}
use Rattle.hq_sql_cells.proofs.different.sort_cells.Goals as goal

pub returns : goal.returns
returns c = sorted_by_closure cell_cmp_total cell_view c.args.cells.now.items _ c.in_ok-sort_by.ensures.sorted c.in_ok-sort_by.ensures.stable (λ a r f' k. search rules)
