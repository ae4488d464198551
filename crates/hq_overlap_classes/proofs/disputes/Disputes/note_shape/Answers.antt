-- The first field of the class and the key.
use Rattle.std.proofs.Common.{refl, sym}
use Rattle.hq_overlap_classes.proofs.disputes.Disputes.note_shape.Goals as goal

pub dispute-requires-clause-first : goal.dispute-requires-clause-first
dispute-requires-clause-first c = c.requires.sound.classes.firsts c.args.class c.args.key c.in-Some.first (sym c.in-Some.ensures)

pub dispute-requires-clause-differ : goal.dispute-requires-clause-differ
dispute-requires-clause-differ c = c.if-not-differs_in_shape.ensures refl
