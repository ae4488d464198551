use Rattle.std.proofs.Common.{◌∙◌, ℕ, List, ap, sym, drop_of_length-le}
use Rattle.hq_copy_definition.specs.Refusals.{first_of, like_type}
use Rattle.hq_model.specs.Permission.{named_from}
use Rattle.hq_model.specs.Schema.{column, schema_of}
use Rattle.hq_model.specs.SchemaNames.{scalar_of}
use Rattle.hq_copy.proofs.SchemaNames.{first_next, passed_next, refused_next}
use Rattle.hq_copy.proofs.schema_names.check_table_scalars.Goals as goal

pub returns-in_err-check_scalar : goal.returns-in_err-check_scalar
returns-in_err-check_scalar c m =
    let names = c.as_slice-names.result.now in
    let f = λ (d : ℕ). like_type c.args.types.now (scalar_of (column (schema_of c.args.tables.now m) c.args.tracked.now.table d)) in
    refused_next _ _ _ _ c.in_err-check_scalar.field-0.0 c.from_residual.result (first_next f names c.loop-c.c c.index-names-c.result c.loop-c-test.true c.index-names-c.is)
    (c.loop-c.invariant m ∙ ap (λ (ns : List (List ℕ)). first_of f (named_from 0 ns)) c.as_slice-names.ensures)
    (c.in_err-check_scalar.ensures m) c.from_residual.ensures.1

pub loop-c-preserved : goal.loop-c-preserved
loop-c-preserved c m =
    let names = c.as_slice-names.result.now in
    let f = λ (d : ℕ). like_type c.args.types.now (scalar_of (column (schema_of c.args.tables.now m) c.args.tracked.now.table d)) in
    passed_next _ _ _ _ (first_next f names c.loop-c.c c.index-names-c.result c.loop-c-test.true c.index-names-c.is) (c.loop-c.invariant m) (c.in_ok-check_scalar.ensures m)

pub returns : goal.returns
returns c m =
    let names = c.as_slice-names.result.now in
    let f = λ (d : ℕ). like_type c.args.types.now (scalar_of (column (schema_of c.args.tables.now m) c.args.tracked.now.table d)) in
    sym (c.loop-c.invariant m ∙ ap (λ (ns : List (List ℕ)). first_of f (named_from 0 ns)) c.as_slice-names.ensures)
    ∙ ap (λ (ns : List (List ℕ)). first_of f (named_from c.loop-c.c ns)) (drop_of_length-le names c.loop-c-test.false)
