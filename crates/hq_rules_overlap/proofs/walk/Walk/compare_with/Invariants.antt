use Rattle.std.proofs.Common.{take}
use Rattle.std.specs.List.{All}
use Rattle.hq_overlap_sets.specs.Sets.{field_in, arena_view}
use Rattle.hq_rules_overlap.specs.Walk.{Step, Compared}
use Rattle.hq_rules_overlap.proofs.walk.Walk.compare_with.Given as goal

-- the fields so far were compared
abbrev pub invariant-loop-b : goal.invariant-loop-b
invariant-loop-b l = record {
  step : Step (arena_view l.arena) l.initial.self l.self;
  compared : All (λ b. Compared (arena_view l.arena) l.self (field_in l.arena l.a) (field_in l.arena b)) (take l.b-index l.theirs);
}
