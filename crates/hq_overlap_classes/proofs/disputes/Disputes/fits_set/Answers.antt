-- It is true of the spreads and of the fields.
use Rattle.std.proofs.Common.{rules}
use Rattle.std.proofs.lemmas.Result.{IfOk-weaker}
use Rattle.hq_schema.specs.Schema.{schema_view}
use Rattle.hq_overlap_classes.specs.Disputes.{noted_in}
use Rattle.hq_overlap_sets.specs.Sets.{set_in, arena_view}
use Rattle.hq_overlap_classes.proofs.Sifting.{true_at}
use Rattle.hq_overlap_classes.proofs.disputes.Disputes.fits_set.Goals as goal

pub returns : goal.returns
returns c =
    let a = c.args.arena.now in
    IfOk-weaker c.fits_fields.result _ _
    (λ fits fields held. true_at (noted_in (schema_view a.schema.now) c.args.self.now) (arena_view a) c.args.number (set_in a c.args.set.now) c.class_of-class.result _ _
    c.requires c.class_of-class.ensures (search rules) (search rules) (c.fits_spreads.ensures (search rules)) (fields held))
    c.fits_fields.ensures
