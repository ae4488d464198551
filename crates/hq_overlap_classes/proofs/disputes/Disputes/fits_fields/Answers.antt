-- It is true of one more field, and of all.
use Rattle.std.proofs.Common.{rules, refl, map}
use Rattle.hq_schema.specs.Schema.{schema_view}
use Rattle.hq_overlap_sets.specs.declared.sets.Entry.{Entry}
use Rattle.hq_overlap_classes.specs.Disputes.{IsTrueOf, noted_in}
use Rattle.hq_overlap_sets.specs.Sets.{entry_view}
use Rattle.hq_overlap_sets.proofs.Stepping.{all_more_item, all_at_end}
use Rattle.hq_overlap_classes.proofs.disputes.Disputes.fits_fields.Goals as goal

pub loop-entry-preserved : goal.loop-entry-preserved
loop-entry-preserved c =
    let s = schema_view c.args.schema.now in
    let n = noted_in s c.args.self.now in
    all_more_item (λ (e : Entry). IsTrueOf n c.args.class (entry_view s e)) (λ (e : Entry). IsTrueOf n c.args.class (entry_view s e)) (λ e h. h)
    c.args.entries.now c.loop-entry.entry-index c.entry-item.result c.loop-entry-test.true c.entry-item.is c.loop-entry.invariant (c.in_ok-fits.ensures (search rules))

pub returns : goal.returns
returns c =
    let s = schema_view c.args.schema.now in
    let n = noted_in s c.args.self.now in
    λ _. all_at_end (entry_view s) (IsTrueOf n c.args.class) c.args.entries.now (map (entry_view s) c.args.entries.now) c.loop-entry.entry-index refl c.loop-entry-test.false c.loop-entry.invariant
