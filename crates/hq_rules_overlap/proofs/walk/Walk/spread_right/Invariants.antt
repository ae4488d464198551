use Rattle.std.proofs.Common.{take}
use Rattle.std.specs.List.{All}
use Rattle.hq_overlap_sets.specs.Sets.{arena_view}
use Rattle.hq_rules_overlap.specs.Walk.{Step, Known}
use Rattle.hq_rules_overlap.proofs.walk.Walk.spread_right.Given as goal

-- the spreads so far were met
abbrev pub invariant-loop-spread : goal.invariant-loop-spread
invariant-loop-spread l = record {
  step : Step (arena_view l.arena) l.initial.self l.self;
  known : All (λ u. Known (arena_view l.arena) l.self l.left u) (take l.spread-index l.spreads);
}
