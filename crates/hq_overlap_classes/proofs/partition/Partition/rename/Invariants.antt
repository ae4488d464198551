use Rattle.std.proofs.Common.{◌≡◌}
use Rattle.hq_overlap_sets.specs.Sets.{arena_view}
use Rattle.hq_overlap_classes.specs.Noting.{AreClasses}
use Rattle.hq_overlap_classes.proofs.partition.Partition.rename.Given as goal

-- the classes so far
abbrev pub invariant-loop-number : goal.invariant-loop-number
invariant-loop-number l = record { classes : AreClasses (arena_view l.arena) l.self.classes.items; members : l.self.members ≡ l.initial.self.members }
