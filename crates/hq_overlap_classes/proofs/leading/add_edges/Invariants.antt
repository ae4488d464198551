use Rattle.hq_overlap_sets.specs.Sets.{arena_view}
use Rattle.hq_overlap_classes.specs.Noting.{AreEdges}
use Rattle.hq_overlap_classes.proofs.leading.add_edges.Given as goal

-- the edges so far
abbrev pub invariant-loop-entry : goal.invariant-loop-entry
invariant-loop-entry l = AreEdges (arena_view l.arena) l.rows.items
