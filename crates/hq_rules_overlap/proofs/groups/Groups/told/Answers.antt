-- Where both places are the same, the place is the first.
use Rattle.hq_overlap_sets.specs.Sets.{arena_view}
use Rattle.hq_rules_overlap.specs.Exploring.{lists_of}
use Rattle.hq_rules_overlap.proofs.Explored.{all_explored}
use Rattle.hq_rules_overlap.proofs.Grouped.{groups_are_enough}
use Rattle.hq_rules_overlap.proofs.groups.Groups.told.Goals as goal

pub returns-then-is_same : goal.returns-then-is_same
returns-then-is_same c =
    let q = c.args.self.now in
    groups_are_enough (arena_view c.args.arena.now) (lists_of q) q.found.least (all_explored (arena_view c.args.arena.now) q c.requires.end)
    c.requires.covered q.found.best (c.is_same.ensures c.if-is_same.true) c.requires.end.sound.best

pub returns-else-is_same : goal.returns-else-is_same
returns-else-is_same c = c.requires.end.sound.best
