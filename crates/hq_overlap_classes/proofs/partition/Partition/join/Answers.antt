-- The classes of two sets of one class.
use Rattle.hq_overlap_sets.specs.Sets.{arena_view}
use Rattle.hq_overlap_classes.specs.Classes as class
use Rattle.hq_overlap_classes.proofs.Joining.{classes_joined}
use Rattle.hq_overlap_classes.proofs.partition.Partition.join.Goals as goal

pub move_into-requires-clause-joined : goal.move_into-requires-clause-joined
move_into-requires-clause-joined c =
    class.turned (classes_joined (arena_view c.args.arena.now) c.args.self.now c.args.left c.args.right c.class_of-first.result c.class_of-second.result c.requires.sound
    c.class_of-first.ensures c.class_of-second.ensures c.requires.joined)

pub move_into-requires-else-members-clause-joined : goal.move_into-requires-else-members-clause-joined
move_into-requires-else-members-clause-joined c =
    classes_joined (arena_view c.args.arena.now) c.args.self.now c.args.left c.args.right c.class_of-first.result c.class_of-second.result c.requires.sound c.class_of-first.ensures
    c.class_of-second.ensures c.requires.joined
