use Rattle.std.proofs.Common.{◌≡◌, drop, map}
use Rattle.std.specs.List.{list_all}
use Rattle.hq_sql_tree.specs.View.{order_view}
use Rattle.hq_sql_tree.specs.Form.{order_fits}
use Rattle.hq_sql_tree.proofs.representable.orders_fit.Given as goal

-- those that are left fit exactly where all do
abbrev pub invariant-loop-order : goal.invariant-loop-order
invariant-loop-order l = list_all order_fits (map order_view (drop l.order-index l.order-items)) ≡ list_all order_fits (map order_view l.order-items)
