use Rattle.std.proofs.Common.{◌≡◌, ◌+◌, ◌++◌, drop, map}
use Rattle.hq_model.specs.Schema.{Schema, table}
use Rattle.hq_request_tree.specs.Arguments.{arguments_view}
use Rattle.hq_sql_tree.specs.View.{pair_view, join_view}
use Rattle.hq_translation.specs.Fields.{fields_numbers, fields_values, fields_joins, parts_numbers, parts_values, parts_joins}
use Rattle.hq_translation.specs.GrantedTables.{GrantedTables}
use Rattle.hq_compile_tables.specs.Contexts.{context_schema, context_granted}
use Rattle.hq_compile_tables.specs.Shown.{look_in}
use Rattle.hq_compile_lists.specs.Starts.{start_origin, start_table}
use Rattle.hq_compile.specs.Fields.{fields_view, parts_view}
use Rattle.hq_compile.proofs.fields.+fields.Given as goal

-- what is there so far, and then that of the fields that are left, is what was there at first, and then that of all
abbrev pub invariant-push_fields-loop-keyed : goal.invariant-push_fields-loop-keyed
invariant-push_fields-loop-keyed l =
    let s : Schema = context_schema l.context in
    let g : GrantedTables = context_granted l.context in
    let rest = fields_view (drop l.keyed-index l.keyed-items) in
    let all = fields_view l.keyed-items in
    let look = look_in l.places (table s l.t).columns l.p in
    record {
      pairs : map pair_view l.row.pairs.items ++ fields_values rest s g look l.t l.next ≡ map pair_view l.initial.row.pairs.items ++ fields_values all s g look l.t l.initial.next;
      joins : map join_view l.row.joins.items ++ fields_joins rest s g l.t l.p l.next ≡ map join_view l.initial.row.joins.items ++ fields_joins all s g l.t l.p l.initial.next;
      numbers : l.next + fields_numbers rest s g l.t ≡ l.initial.next + fields_numbers all s g l.t;
    }

abbrev pub invariant-push_parts-loop-keyed : goal.invariant-push_parts-loop-keyed
invariant-push_parts-loop-keyed l =
    let s : Schema = context_schema l.context in
    let g : GrantedTables = context_granted l.context in
    let rest = parts_view (drop l.keyed-index l.keyed-items) in
    let all = parts_view l.keyed-items in
    let u = start_table s l.start in
    let o = start_origin l.start in
    let a = arguments_view l.start.args.now in
    record {
      pairs : map pair_view l.row.pairs.items ++ parts_values rest s g u a l.next ≡ map pair_view l.initial.row.pairs.items ++ parts_values all s g u a l.initial.next;
      joins : map join_view l.row.joins.items ++ parts_joins rest s g o l.start.row_table l.start.row_number a l.next
          ≡ map join_view l.initial.row.joins.items ++ parts_joins all s g o l.start.row_table l.start.row_number a l.initial.next;
      numbers : l.next + parts_numbers rest s g u a ≡ l.initial.next + parts_numbers all s g u a;
    }
