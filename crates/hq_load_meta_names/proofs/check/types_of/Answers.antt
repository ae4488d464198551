use Rattle.std.proofs.Common.{◌∙◌, ap, filter}
use Rattle.std.proofs.lemmas.Result.{IfOk-weaker}
use Rattle.hq_base.specs.Aggregates.{all_aggregates}
use Rattle.hq_model.specs.Meta.{tracked_view}
use Rattle.hq_model.specs.SchemaNames.{has_columns}
use Rattle.hq_model.specs.Described.{scope_schema}
use Rattle.hq_load_meta_names.specs.Types.{is_over, types_by}
use Rattle.hq_load_meta_names.proofs.check.types_of.Goals as goal

pub returns : goal.returns
returns c =
    let s = scope_schema c.args.scope.now in
    let k = tracked_view c.args.tracked.now in
    let columns = c.as_slice-columns.ensures ∙ c.in_ok-columns.ensures in
    let over = c.as_slice.ensures.value ∙ c.in_ok-over.ensures ∙ ap (λ cs. filter (is_over s k.table cs) all_aggregates) columns in
    IfOk-weaker c.types_by.result _ _
    (λ names h. h
    ∙ ap (λ b. types_by b c.as_slice.result.now k.name) c.has_columns.ensures
    ∙ ap (λ as'. types_by (has_columns k) as' k.name) over)
    c.types_by.ensures
