use Rattle.std.proofs.Common.{◌∙◌, ℕ, List, sym, ap}
use Rattle.hq_model.specs.Schema.{table}
use Rattle.hq_model.specs.declared.table.Column.{Column}
use Rattle.hq_request_tree.specs.Arguments.{arguments_view}
use Rattle.hq_sql_tree.specs.View.{select_view}
use Rattle.hq_translation.specs.Lists.{list_used, children_from}
use Rattle.hq_compile_tables.specs.Contexts.{context_schema, context_granted}
use Rattle.hq_compile_lists.specs.Starts.{start_tie}
use Rattle.hq_compile_lists.proofs.SummarySelects.{folded_of, output_of}
use Rattle.hq_compile_lists.proofs.summary.folded_select.Goals as goal

pub returns-clause-select : goal.returns-clause-select
returns-clause-select c =
    let s = context_schema c.args.context.now in
    let g = context_granted c.args.context.now in
    let t = c.args.t in
    let n = c.args.n in
    let fs = c.args.fields.now in
    let a = arguments_view c.args.start.now.args.now in
    let tie = start_tie s c.args.start.now n in
    let needs = c.as_slice.result.now in
    let out = c.in_ok-out.ensures ∙ ap (λ (columns : List Column). output_of columns n c.as_slice-2.result.now fs) c.columns.ensures
    ∙ ap (λ (cs : List ℕ). output_of (table s t).columns n cs fs) (c.as_slice-2.ensures ∙ sym c.as_slice.ensures) in
    folded_of s g t n a tie fs needs _ _ _ _ c.fold.ensures (ap select_view c.in_ok-rows-2.ensures.ok ∙ c.in_ok-rows.ensures.select) out
    c.in_ok-alias.ensures (c.as_slice.ensures ∙ c.in_ok-needs.ensures)

pub returns-clause-numbers : goal.returns-clause-numbers
returns-clause-numbers c =
    let s = context_schema c.args.context.now in
    let g = context_granted c.args.context.now in
    let t = c.args.t in
    let n = c.args.n in
    let a = arguments_view c.args.start.now.args.now in
    c.in_ok-rows.ensures.numbers ∙ ap (λ (needs : List ℕ). children_from s g t (list_used s t a needs) a n) (c.as_slice.ensures ∙ c.in_ok-needs.ensures)
