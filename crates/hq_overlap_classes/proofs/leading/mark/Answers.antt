-- One more mark.
use Rattle.hq_overlap_sets.specs.Sets.{arena_view}
use Rattle.hq_overlap_classes.proofs.Joining.{marked_more}
use Rattle.hq_overlap_classes.proofs.leading.mark.Goals as goal

pub returns-then-number-len : goal.returns-then-number-len
returns-then-number-len c = marked_more (arena_view c.args.arena.now) c.args.marks.now.items c.args.number c.requires.fault c.requires.marks
