use Rattle.std.proofs.Common.{◌∙◌, List, ap, map}
use Rattle.std.proofs.lemmas.Result.{IfOk-weaker}
use Rattle.hq_model.specs.Schema.{table}
use Rattle.hq_request_tree.specs.Arguments.{arguments_view}
use Rattle.hq_sql_tree.specs.View.{join_view}
use Rattle.hq_compile_tables.specs.Contexts.{context_schema, context_granted}
use Rattle.hq_compile_tables.specs.Shown.{look_in}
use Rattle.hq_compile_tables.specs.declared.shown.MaskPlace.{MaskPlace}
use Rattle.hq_compile_lists.specs.Starts.{start_tie}
use Rattle.hq_compile_lists.proofs.SummarySelects.{needed_rows_of}
use Rattle.hq_compile_lists.proofs.summary.needed_rows.Goals as goal

-- the rows without the permission's limit
pub returns-clause-select : goal.returns-clause-select
returns-clause-select c =
    let s = context_schema c.args.context.now in
    let g = context_granted c.args.context.now in
    let t = c.args.t in
    let n = c.args.n in
    let a = arguments_view c.args.start.now.args.now in
    let tie = start_tie s c.args.start.now n in
    let body = c.in_ok-body.ensures.body in
    let look = λ (places : List MaskPlace). look_in places (table s t).columns n in
    IfOk-weaker c.list_rows.result _ _
    (λ select is. needed_rows_of s g t n a tie c.args.needed.now c.as_slice.result.now c.in_ok-body.body (look c.as_slice-places.result.now) _ _ _ _
    body is c.row_limit-limit.ensures (ap (map join_view) c.new.ensures.items) c.in_ok-outs.ensures (ap look c.as_slice-places.ensures ∙ body.looks) (c.as_slice.ensures ∙ c.in_ok-used.ensures))
    c.list_rows.ensures
