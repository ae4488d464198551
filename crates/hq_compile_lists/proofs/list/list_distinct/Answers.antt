use Rattle.std.proofs.Common.{◌∙◌, ℕ, List, [], ap}
use Rattle.std.proofs.lemmas.Result.{IfOk-weaker}
use Rattle.hq_model.specs.Schema.{table}
use Rattle.hq_translation.specs.Lists.{distinct_columns}
use Rattle.hq_translation.specs.Looks.{add_all}
use Rattle.hq_compile_tables.specs.Contexts.{context_schema}
use Rattle.hq_compile_tables.specs.Shown.{look_in}
use Rattle.hq_compile_lists.proofs.Selects.{distinct_as}
use Rattle.hq_compile_lists.proofs.list.list_distinct.Goals as goal

pub returns : goal.returns
returns c =
    let columns = (table (context_schema c.args.context.now) c.args.t).columns in
    let look = look_in c.args.places.now columns c.args.n in
    let shown = c.table_shown-shown.ensures in
    IfOk-weaker c.distinct_columns.result _ _
    (λ es is. is ∙ distinct_as c.table_shown-shown.result columns c.args.n c.args.places.now c.as_slice-2.result.now shown.columns shown.number shown.places
    ∙ ap (distinct_columns columns look) (c.as_slice-2.ensures ∙ c.in_ok-once.ensures ∙ ap (λ (cs : List ℕ). add_all cs []) c.as_slice.ensures))
    c.distinct_columns.ensures
