-- The set is of the class.
use Rattle.hq_overlap_sets.specs.Sets.{arena_view}
use Rattle.hq_overlap_classes.proofs.Joining.{classes_set}
use Rattle.hq_overlap_classes.proofs.partition.Partition.set_class.Goals as goal

pub returns-then-number-len-clause-classes : goal.returns-then-number-len-clause-classes
returns-then-number-len-clause-classes c = classes_set (arena_view c.args.arena.now) c.args.self.now.classes.items c.args.number c.args.class c.requires.joined c.requires.classes
