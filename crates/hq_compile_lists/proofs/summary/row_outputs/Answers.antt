use Rattle.std.proofs.Common.{◌∙◌, ap}
use Rattle.std.proofs.lemmas.Result.{IfOk-weaker}
use Rattle.hq_model.specs.Schema.{table}
use Rattle.hq_translation.specs.Aggregates.{needed_outputs}
use Rattle.hq_translation.specs.Looks.{Look}
use Rattle.hq_compile_tables.specs.Contexts.{context_schema}
use Rattle.hq_compile_tables.proofs.Looks.{shown_as}
use Rattle.hq_compile_lists.proofs.summary.row_outputs.Goals as goal

pub returns : goal.returns
returns c =
    let columns = (table (context_schema c.args.context.now) c.args.t).columns in
    let shown = c.table_shown-shown.ensures in
    IfOk-weaker c.needed_outputs.result _ _
    (λ outs is. is ∙ ap (λ (look : Look). needed_outputs look c.args.needed.now) (shown_as c.table_shown-shown.result columns c.args.n c.args.places.now shown.columns shown.number shown.places))
    c.needed_outputs.ensures
