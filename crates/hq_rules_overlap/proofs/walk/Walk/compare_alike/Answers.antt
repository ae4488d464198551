-- The sets below two fields of one key are put together.
use Rattle.std.proofs.lemmas.Result.{on_ok_weaker}
use Rattle.hq_overlap_sets.specs.Sets.{field_in, arena_view}
use Rattle.hq_overlap_sets.specs.Together as walk
use Rattle.hq_rules_overlap.proofs.Steps.{step_then, compared_now}
use Rattle.hq_overlap_sets.proofs.Stepping.{on_ok_weaker2}
use Rattle.hq_rules_overlap.proofs.walk.Walk.compare_alike.Goals as goal

pub meet-requires-clause-sound : goal.meet-requires-clause-sound
meet-requires-clause-sound c = c.in_ok-count_conflict.ensures.step.sound c.requires.sound

pub meet-requires-clause-together : goal.meet-requires-clause-together
meet-requires-clause-together c = walk.below c.requires.together c.requires.first c.requires.second c.requires.key

pub returns-clause-step : goal.returns-clause-step
returns-clause-step c =
    on_ok_weaker c.meet.result (step_then (arena_view c.args.arena.now) c.args.self.now _ _ c.in_ok-count_conflict.ensures.step) c.meet.ensures.step

pub returns-clause-compared : goal.returns-clause-compared
returns-clause-compared c =
    on_ok_weaker2 c.meet.result
    (λ step known. compared_now (arena_view c.args.arena.now) _ _ (field_in c.args.arena.now c.args.a.now) (field_in c.args.arena.now c.args.b.now)
    c.in_ok-count_conflict.ensures.counted step known)
    c.meet.ensures.step c.meet.ensures.known
