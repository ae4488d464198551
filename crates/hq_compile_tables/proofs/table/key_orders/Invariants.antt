use Rattle.std.proofs.Common.{◌≡◌, ◌++◌, drop, map}
use Rattle.hq_sql_tree.specs.View.{order_view}
use Rattle.hq_translation.specs.Selects.{key_orders}
use Rattle.hq_compile_tables.proofs.table.key_orders.Given as goal

abbrev pub invariant-loop-column : goal.invariant-loop-column
invariant-loop-column l =
    map order_view l.orders.items ++ key_orders l.columns l.number (drop l.column-index l.key) ≡ key_orders l.columns l.number l.key
