use Rattle.hq_overlap_sets.specs.Sets.{arena_view}
use Rattle.hq_rules_overlap.specs.Walk.{IsSound, HasRoots}
use Rattle.hq_rules_overlap.proofs.walk.Walk.meet_each.Given as goal

-- the sets so far were put together with themselves
abbrev pub invariant-loop-set : goal.invariant-loop-set
invariant-loop-set l = record { sound : IsSound (arena_view l.arena) l.self; roots : HasRoots (arena_view l.arena) l.self l.set }
