-- One key, and the test of two fields.
use Rattle.std.proofs.Common.{rules, ◌∙◌, sym}
use Rattle.std.proofs.lemmas.Result.{IfOk-weaker}
use Rattle.hq_schema.specs.Schema.{schema_view}
use Rattle.hq_overlap_sets.specs.Sets.{entry_view}
use Rattle.hq_overlap_sets.proofs.FieldTests.{violates_by}
use Rattle.hq_overlap_classes.proofs.disputes.differs.Goals as goal

pub returns : goal.returns
returns c =
    let v = entry_view (schema_view c.args.schema.now) in
    IfOk-weaker c.cannot_merge.result _ _ (λ apart e held. violates_by (v c.args.first.now) (v c.args.entry.now) (search rules) (sym e ∙ held)) c.cannot_merge.ensures
