use Rattle.std.proofs.Common.{take}
use Rattle.std.specs.List.{All}
use Rattle.hq_overlap_sets.specs.Pairs.{fields_at}
use Rattle.hq_overlap_sets.specs.Sets.{field_in, arena_view}
use Rattle.hq_rules_overlap.specs.Walk.{Step, ComparedWith}
use Rattle.hq_rules_overlap.proofs.walk.Walk.compare_sets.Given as goal

-- the fields so far were compared
abbrev pub invariant-loop-a : goal.invariant-loop-a
invariant-loop-a l = record {
  step : Step (arena_view l.arena) l.initial.self l.self;
  compared : All (λ a. ComparedWith (arena_view l.arena) l.self (field_in l.arena a) (fields_at (arena_view l.arena) l.right)) (take l.a-index l.ours);
}
