use Rattle.std.proofs.Common.{length}
use Rattle.hq_overlap_sets.specs.Sets.{arena_view}
use Rattle.hq_rules_overlap.specs.Walk.{IsSound, HasRoots, AreDone}
use Rattle.hq_rules_overlap.proofs.walk.Walk.run.Given as goal

-- the pairs so far are done
abbrev pub invariant-loop-at : goal.invariant-loop-at
invariant-loop-at l = record {
  sound : IsSound (arena_view l.arena) l.self;
  roots : HasRoots (arena_view l.arena) l.self (length (arena_view l.arena));
  done : AreDone (arena_view l.arena) l.self l.at;
}
