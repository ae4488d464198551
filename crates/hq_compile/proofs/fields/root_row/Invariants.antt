use Rattle.std.proofs.Common.{◌≡◌, ◌+◌, ◌++◌, drop, map}
use Rattle.hq_model.specs.Schema.{Schema, table}
use Rattle.hq_request_tree.specs.Root.{table_fields}
use Rattle.hq_sql_tree.specs.View.{pair_view, join_view}
use Rattle.hq_translation.specs.Fields.{fields_numbers, fields_values, fields_joins}
use Rattle.hq_translation.specs.Looks.{own_look}
use Rattle.hq_translation.specs.GrantedTables.{GrantedTables}
use Rattle.hq_compile_tables.specs.Contexts.{context_schema, context_granted}
use Rattle.hq_compile.specs.Fields.{fields_view}
use Rattle.hq_compile.proofs.fields.root_row.Given as goal

-- what is there so far, and then that of the table fields that are left, is that of all
abbrev pub invariant-loop-keyed : goal.invariant-loop-keyed
invariant-loop-keyed l =
    let s : Schema = context_schema l.context in
    let g : GrantedTables = context_granted l.context in
    let rest = table_fields (fields_view (drop l.keyed-index l.keyed-items)) in
    let all = table_fields (fields_view l.keyed-items) in
    let look = own_look (table s l.root).columns 0 in
    record {
      pairs : map pair_view l.row.pairs.items ++ fields_values rest s g look l.root l.next ≡ fields_values all s g look l.root l.initial.next;
      joins : map join_view l.row.joins.items ++ fields_joins rest s g l.root 0 l.next ≡ fields_joins all s g l.root 0 l.initial.next;
      numbers : l.next + fields_numbers rest s g l.root ≡ l.initial.next + fields_numbers all s g l.root;
    }
