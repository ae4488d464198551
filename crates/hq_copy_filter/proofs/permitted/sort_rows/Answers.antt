use Rattle.std.proofs.Common.{rules}
use Rattle.std.specs.Borrow.{Bor}
use Rattle.hq_sql_cells.proofs.KeyOrders.{sorted_by_closure}
use Rattle.hq_model.specs.Database.{Row}
use Rattle.hq_copy_filter.proofs.Orders.{columns_cmp_total}
use Rattle.hq_copy_filter.proofs.Rows.{sorted_rows}
use Rattle.hq_copy_filter.proofs.permitted.sort_rows.Goals as goal

pub returns : goal.returns
returns c =
    sorted_rows c.args.columns.now c.args.rows.now.items _
    (sorted_by_closure (columns_cmp_total c.args.columns.now) (λ (row : Bor Row). row.now) c.args.rows.now.items _
    c.in_ok-sort_by.ensures.sorted c.in_ok-sort_by.ensures.stable (λ a r f' k. search rules))
