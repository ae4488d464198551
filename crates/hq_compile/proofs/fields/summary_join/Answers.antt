use Rattle.std.proofs.Common.{refl}
use Rattle.std.proofs.lemmas.Result.{IfOk-weaker}
use Rattle.hq_request_tree.specs.Arguments.{arguments_view}
use Rattle.hq_sql_tree.specs.View.{join_view}
use Rattle.hq_compile_tables.specs.Contexts.{context_schema, context_granted}
use Rattle.hq_compile_lists.specs.Starts.{start_origin}
use Rattle.hq_compile.proofs.Joins.{summary_of}
use Rattle.hq_compile.proofs.fields.summary_join.Goals as goal

-- the join of `aggregate` is put together from its parts
pub returns-clause-join : goal.returns-clause-join
returns-clause-join c =
    let s = context_schema c.args.context.now in
    let g = context_granted c.args.context.now in
    let l = c.args.start.now in
    IfOk-weaker c.one_join.result _ _
    (λ join is. summary_of s g (start_origin l) (arguments_view l.args.now) c.args.fields.now l.row_table l.row_number c.args.next.now c.list_table-table.result c.in_ok-n.n _ _ _ (join_view join)
    is c.in_ok-select.ensures.select c.as_slice-fields.ensures refl c.list_table-table.ensures c.in_ok-n.ensures.taken)
    c.one_join.ensures
