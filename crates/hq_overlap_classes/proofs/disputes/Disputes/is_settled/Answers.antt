-- The first field of the parent type is the one that is noted.
use Rattle.std.proofs.Common.{◌∙◌, ap, sym, ℕ}
use Rattle.std.specs.Prelude.{option_map}
use Rattle.std.proofs.lemmas.Result.{IfOk-weaker}
use Rattle.hq_schema.specs.Schema.{schema_view}
use Rattle.hq_overlap_classes.specs.Disputes.{label_of}
use Rattle.hq_overlap_sets.specs.Sets.{entry_view}
use Rattle.hq_overlap_classes.proofs.disputes.Disputes.is_settled.Goals as goal

pub returns : goal.returns
returns c =
    let s = schema_view c.args.schema.now in
    IfOk-weaker c.are_alike.result _ _
    (λ settled alike held. record {
      label = entry_view s c.in-Some.label;
      noted = ap (option_map (entry_view s)) (ap (λ (k : ℕ). label_of c.args.self.now c.args.class k c.args.entry.now.parent) (sym c.requires) ∙ sym c.in-Some.ensures);
      shape = (alike held).0;
      same = (alike held).1;
    })
    c.are_alike.ensures
