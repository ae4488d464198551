use Rattle.std.proofs.Common.{◌∙◌, sym}
use Rattle.std.proofs.lemmas.Result.{IfOk-weaker}
use Rattle.hq_request_tree.specs.Arguments.{arguments_view}
use Rattle.hq_compile_tables.specs.Contexts.{context_schema, context_granted}
use Rattle.hq_compile_lists.specs.Starts.{start_tie}
use Rattle.hq_compile_lists.proofs.SummarySelects.{summary_folded, summary_plain}
use Rattle.hq_compile_lists.proofs.summary.summary_select.Goals as goal

pub returns-then-some_aggregate-clause-select : goal.returns-then-some_aggregate-clause-select
returns-then-some_aggregate-clause-select c =
    IfOk-weaker c.folded_select.result _ _
    (λ select is. is
    ∙ summary_folded (context_schema c.args.context.now) (context_granted c.args.context.now) c.args.t c.args.n
    (arguments_view c.args.start.now.args.now) (start_tie (context_schema c.args.context.now) c.args.start.now c.args.n)
    c.args.fields.now
    (sym c.some_aggregate.ensures ∙ c.if-some_aggregate.true))
    c.folded_select.ensures.select

pub returns-else-some_aggregate-clause-select : goal.returns-else-some_aggregate-clause-select
returns-else-some_aggregate-clause-select c =
    IfOk-weaker c.plain_select.result _ _
    (λ select is. is
    ∙ summary_plain (context_schema c.args.context.now) (context_granted c.args.context.now) c.args.t c.args.n
    (arguments_view c.args.start.now.args.now) (start_tie (context_schema c.args.context.now) c.args.start.now c.args.n)
    c.args.fields.now
    (sym c.some_aggregate.ensures ∙ c.if-some_aggregate.false))
    c.plain_select.ensures
