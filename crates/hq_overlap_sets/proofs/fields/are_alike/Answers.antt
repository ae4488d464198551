-- The shapes are the same too.
use Rattle.std.proofs.Common.{sym, ◌∙◌}
use Rattle.std.proofs.lemmas.Result.{IfOk-weaker}
use Rattle.hq_schema.specs.Schema.{schema_view, type_ref_view}
use Rattle.hq_overlap_sets.specs.Shapes.{shape_of}
use Rattle.hq_overlap_sets.specs.Sets.{entry_view}
use Rattle.hq_overlap_sets.proofs.FieldTests.{label_true}
use Rattle.hq_overlap_sets.proofs.ShapeLemmas.{shape_true}
use Rattle.hq_overlap_sets.proofs.fields.are_alike.Goals as goal

pub returns : goal.returns
returns c =
    let s = schema_view c.args.schema.now in
    IfOk-weaker c.same_label.result _ _
    (λ alike e held. (
      shape_true (shape_of s (type_ref_view c.args.first.now.def.now.ty)) (shape_of s (type_ref_view c.args.entry.now.def.now.ty)) (sym c.if-not-same_shape.ensures),
      label_true (entry_view s c.args.label.now).label (entry_view s c.args.entry.now).label (sym e ∙ held),
    ))
    c.same_label.ensures
