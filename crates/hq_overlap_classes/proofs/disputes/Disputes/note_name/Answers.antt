-- The field of the class, the key and the parent type.
use Rattle.std.proofs.Common.{rules, sym}
use Rattle.hq_overlap_classes.proofs.disputes.Disputes.note_name.Goals as goal

pub dispute-requires-clause-first : goal.dispute-requires-clause-first
dispute-requires-clause-first c = c.requires.sound.labels c.args.class c.args.key c.args.entry.now.parent c.in-Some.label (sym c.in-Some.ensures)

pub dispute-requires-clause-differ : goal.dispute-requires-clause-differ
dispute-requires-clause-differ c = c.in_ok-differs.ensures (search rules)
