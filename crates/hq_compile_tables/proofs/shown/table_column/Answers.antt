use Rattle.std.proofs.Common.{◌∙◌, ap}
use Rattle.std.proofs.lemmas.Result.{IfOk-weaker}
use Rattle.hq_model.specs.Schema.{table}
use Rattle.hq_sql_tree.specs.Tree as tree
use Rattle.hq_translation.specs.Looks.{Look}
use Rattle.hq_compile_tables.specs.Contexts.{context_schema}
use Rattle.hq_compile_tables.proofs.Looks.{shown_as}
use Rattle.hq_compile_tables.proofs.shown.table_column.Goals as goal

pub returns : goal.returns
returns c =
    let shown = c.table_shown-shown.ensures in
    let look = shown_as c.table_shown-shown.result (table (context_schema c.args.context.now) c.args.t).columns c.args.number c.args.places.now shown.columns shown.number shown.places in
    IfOk-weaker c.shown_in.result _ _
    (λ e is. is ∙ ap (λ (at : Look). tree.column (at c.args.column).alias (at c.args.column).name c.args.form) look)
    c.shown_in.ensures
