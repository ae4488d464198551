use Rattle.hq_overlap_sets.specs.Sets.{arena_view}
use Rattle.hq_overlap_classes.specs.Noting.{AreFound}
use Rattle.hq_overlap_classes.proofs.disputes.Disputes.are_more_at_fault.Given as goal

-- the sets at fault so far
abbrev pub invariant-loop-number : goal.invariant-loop-number
invariant-loop-number l = AreFound (arena_view l.arena) l.number l.sum
