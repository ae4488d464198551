use Rattle.hq_overlap_sets.specs.Sets.{arena_view}
use Rattle.hq_overlap_classes.specs.Noting.{AreMarked}
use Rattle.hq_overlap_classes.proofs.leading.marks_of.Given as goal

-- the marks so far
abbrev pub invariant-loop-place : goal.invariant-loop-place
invariant-loop-place l = AreMarked (arena_view l.arena) l.marks.items
