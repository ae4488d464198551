use Rattle.std.proofs.Common.{◌∙◌, ap, arith}
use Rattle.hq_explain_places.specs.Records.{behind_byte}
use Rattle.hq_explain_places.proofs.Steps.{field_next}
use Rattle.hq_explain_places.proofs.records.from_field.Goals as goal

pub fields-preserved : goal.fields-preserved
fields-preserved c =
    field_next c.args.number c.fields.done c.fields.rest.now c.in-Some.later.now _ (omega arith) c.fields.invariant
    (c.in-Some.ensures ∙ ap (behind_byte 44) c.behind_field.ensures)
