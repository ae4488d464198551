use Rattle.std.proofs.Common.{◌≡◌, ◌+◌, ◌++◌, drop, map}
use Rattle.hq_model.specs.Schema.{Schema, table}
use Rattle.hq_sql_tree.specs.View.{join_view, order_view, out_view}
use Rattle.hq_translation.specs.GrantedTables.{GrantedTables}
use Rattle.hq_translation.specs.Sorts.{sorts_numbers, sorts_joins, orders, key_outputs}
use Rattle.hq_compile_tables.specs.Contexts.{context_schema, context_granted}
use Rattle.hq_compile_tables.specs.Shown.{look_in}
use Rattle.hq_compile_lists.specs.RowSorts.{row_sort_view}
use Rattle.hq_compile_lists.proofs.order.sort_parts.Given as goal

abbrev pub invariant-loop-i : goal.invariant-loop-i
invariant-loop-i l =
    let s : Schema = context_schema l.context in
    let g : GrantedTables = context_granted l.context in
    let rest = map row_sort_view (drop l.i l.sorts) in
    let all = map row_sort_view l.sorts in
    let look = look_in l.places (table s l.t).columns l.p in
    record {
      joins : map join_view l.parts.joins.items ++ sorts_joins rest s g l.t l.p l.next ≡ sorts_joins all s g l.t l.p l.fn.next;
      orders : map order_view l.parts.orders.items ++ orders rest s g look l.t l.p l.next ≡ orders all s g look l.t l.p l.fn.next;
      outputs : map out_view l.parts.outputs.items ++ key_outputs rest s g look l.t l.p l.next l.i ≡ key_outputs all s g look l.t l.p l.fn.next 0;
      numbers : l.next + sorts_numbers rest s g l.t ≡ l.fn.next + sorts_numbers all s g l.t;
    }
