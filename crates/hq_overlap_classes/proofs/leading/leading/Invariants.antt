use Rattle.hq_overlap_sets.specs.Sets.{arena_view}
use Rattle.hq_overlap_classes.specs.Noting.{AreEdges}
use Rattle.hq_overlap_classes.proofs.leading.leading.Given as goal

-- the edges so far
abbrev pub invariant-loop-number : goal.invariant-loop-number
invariant-loop-number l = AreEdges (arena_view l.arena) l.rows.items
