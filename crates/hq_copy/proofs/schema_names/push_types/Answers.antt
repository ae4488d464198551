use Rattle.std.proofs.Common.{◌∙◌, [], Bool, cond, ◌++◌, ap, sym}
use Rattle.std.proofs.lemmas.Result.{on_ok_weaker}
use Rattle.hq_model.specs.Meta.{tracked_view}
use Rattle.hq_model.specs.Schema.{schema_of}
use Rattle.hq_model.specs.SchemaNames.{table_types}
use Rattle.hq_copy.proofs.schema_names.push_types.Goals as goal

pub returns : goal.returns
returns c =
    on_ok_weaker c.push_table_types.result
    (λ h m. h m ∙ ap (λ (b : Bool). c.args.names.now ++ cond b (table_types (schema_of c.args.tables.now m) (tracked_view c.args.tracked.now)) [])
    (sym c.if-not-has_columns.false ∙ c.has_columns.ensures))
    c.push_table_types.ensures
