use Rattle.std.proofs.Common.{◌∙◌, List, ap, map, sym, drop_of_length-le}
use Rattle.hq_base.proofs.Loops.{next_item}
use Rattle.hq_copy_definition.specs.Refusals.{first_of, scalar_refusal}
use Rattle.hq_model.specs.Meta.{tracked_view}
use Rattle.hq_model.specs.Schema.{schema_of}
use Rattle.hq_model.specs.declared.meta.Tracked.{Tracked}
use Rattle.hq_copy.proofs.SchemaNames.{passed_next, refused_next}
use Rattle.hq_copy.proofs.schema_names.check_scalars.Goals as goal

pub returns-in_err-check_table_scalars : goal.returns-in_err-check_table_scalars
returns-in_err-check_table_scalars c m =
    let items = c.as_slice-tracked-items.result.now in
    let all = λ (ks : List Tracked). first_of (scalar_refusal (schema_of c.args.tables.now m) c.args.types.now) (map tracked_view ks) in
    refused_next _ _ _ _ c.in_err-check_table_scalars.field-0.0 c.from_residual.result
    (ap all (next_item items c.loop-tracked.tracked-index c.tracked-item.result c.loop-tracked-test.true c.tracked-item.is))
    (c.loop-tracked.invariant m ∙ ap all c.as_slice-tracked-items.ensures) (c.in_err-check_table_scalars.ensures m) c.from_residual.ensures.1

pub loop-tracked-preserved : goal.loop-tracked-preserved
loop-tracked-preserved c m =
    let items = c.as_slice-tracked-items.result.now in
    let all = λ (ks : List Tracked). first_of (scalar_refusal (schema_of c.args.tables.now m) c.args.types.now) (map tracked_view ks) in
    passed_next _ _ _ _ (ap all (next_item items c.loop-tracked.tracked-index c.tracked-item.result c.loop-tracked-test.true c.tracked-item.is))
    (c.loop-tracked.invariant m) (c.in_ok-check_table_scalars.ensures m)

pub returns : goal.returns
returns c m =
    let items = c.as_slice-tracked-items.result.now in
    let all = λ (ks : List Tracked). first_of (scalar_refusal (schema_of c.args.tables.now m) c.args.types.now) (map tracked_view ks) in
    sym (c.loop-tracked.invariant m ∙ ap all c.as_slice-tracked-items.ensures) ∙ ap all (drop_of_length-le items c.loop-tracked-test.false)
