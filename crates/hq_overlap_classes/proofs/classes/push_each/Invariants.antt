use Rattle.hq_overlap_sets.specs.Sets.{arena_view}
use Rattle.hq_overlap_classes.specs.Noting.{AreToJoin}
use Rattle.hq_overlap_classes.proofs.classes.push_each.Given as goal

abbrev pub invariant-loop-spread : goal.invariant-loop-spread
invariant-loop-spread l = AreToJoin (arena_view l.arena) l.pending.items
