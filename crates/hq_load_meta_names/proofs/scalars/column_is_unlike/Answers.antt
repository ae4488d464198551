use Rattle.std.proofs.Common.{◌∙◌, ap, sym}
use Rattle.hq_model.specs.Schema.{no_column, table}
use Rattle.hq_model.specs.SchemaNames.{is_unlike, scalar_of}
use Rattle.hq_model.specs.Described.{scope_schema}
use Rattle.hq_model.proofs.Places.{present, absent}
use Rattle.hq_load_meta_names.proofs.scalars.column_is_unlike.Goals as goal

pub returns-in-Some : goal.returns-in-Some
returns-in-Some c =
    let columns = (table (scope_schema c.args.scope.now) c.args.t).columns in
    c.is_unlike.ensures ∙ ap (is_unlike c.args.types.now) c.scalar.ensures
    ∙ ap (λ x. is_unlike c.args.types.now (scalar_of x)) (sym (present columns c.args.col no_column c.in-Some.column.now (sym c.in-Some.ensures)))

pub returns-in-None : goal.returns-in-None
returns-in-None c =
    let columns = (table (scope_schema c.args.scope.now) c.args.t).columns in
    ap (λ x. is_unlike c.args.types.now (scalar_of x)) (sym (absent columns c.args.col no_column (sym c.in-None.ensures)))
