-- The members of a class are joined with it.
use Rattle.std.proofs.Common.{◌∙◌}
use Rattle.hq_overlap_sets.specs.Sets.{arena_view}
use Rattle.hq_overlap_classes.proofs.Joining.{members_joined}
use Rattle.hq_overlap_classes.proofs.partition.Partition.move_into.Goals as goal

pub move_members-requires-clause-moved : goal.move_members-requires-clause-moved
move_members-requires-clause-moved c =
    members_joined (arena_view c.args.arena.now) c.args.self.now c.args.class c.args.into c.deref.result.now c.requires.sound c.requires.joined
    (c.deref.ensures.value ∙ (c.in_ok-moved.ensures.items ∙ c.members.ensures))
