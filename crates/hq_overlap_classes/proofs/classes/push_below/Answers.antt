-- The sets below two fields of one key.
use Rattle.std.proofs.Common.{rules}
use Rattle.hq_overlap_sets.specs.Sets.{field_in, arena_view}
use Rattle.hq_overlap_classes.proofs.Joining.{below_joined}
use Rattle.hq_overlap_classes.proofs.classes.push_below.Goals as goal

pub push_pair-requires-clause-joined : goal.push_pair-requires-clause-joined
push_pair-requires-clause-joined c =
    below_joined (arena_view c.args.arena.now) c.args.class (field_in c.args.arena.now c.args.first.now) (field_in c.args.arena.now c.args.entry.now) c.requires.first c.requires.second (search rules)
