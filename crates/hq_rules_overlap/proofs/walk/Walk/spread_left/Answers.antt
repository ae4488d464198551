-- One more spread was met.
use Rattle.std.proofs.Common.{ℕ, rules}
use Rattle.hq_overlap_sets.specs.Pairs.{spreads_at}
use Rattle.hq_overlap_sets.specs.Sets.{arena_view}
use Rattle.hq_overlap_sets.specs.Together as walk
use Rattle.hq_rules_overlap.specs.Walk.{Known}
use Rattle.hq_rules_overlap.proofs.Steps.{step_refl, step_then, known_kept}
use Rattle.hq_overlap_sets.proofs.Stepping.{all_more, stands_in, all_at_end_itself}
use Rattle.hq_rules_overlap.proofs.walk.Walk.spread_left.Goals as goal

pub meet-requires-clause-sound : goal.meet-requires-clause-sound
meet-requires-clause-sound c = c.loop-spread.invariant.step.sound c.requires.sound

pub meet-requires-clause-together : goal.meet-requires-clause-together
meet-requires-clause-together c =
    walk.left c.requires.together
    (stands_in c.args.spreads.now (spreads_at (arena_view c.args.arena.now) c.args.left) c.loop-spread.spread-index _ c.requires.spreads c.loop-spread-test.true)

pub loop-spread-init : goal.loop-spread-init
loop-spread-init c = record { step = step_refl (arena_view c.args.arena.now) c.args.self.now; known = search rules }

pub loop-spread-preserved : goal.loop-spread-preserved
loop-spread-preserved c =
    let sets = arena_view c.args.arena.now in
    record {
      step = step_then sets c.args.self.now c.loop-spread.self c.meet.new.self c.loop-spread.invariant.step c.in_ok-meet.ensures.step;
      known =
          all_more (λ (u : ℕ). Known sets c.loop-spread.self u c.args.right) (λ (u : ℕ). Known sets c.meet.new.self u c.args.right)
          (λ u. known_kept sets c.loop-spread.self c.meet.new.self u c.args.right c.in_ok-meet.ensures.step)
          c.args.spreads.now c.loop-spread.spread-index _ c.loop-spread-test.true c.loop-spread.invariant.known c.in_ok-meet.ensures.known;
    }

pub returns-clause-known : goal.returns-clause-known
returns-clause-known c =
    let sets = arena_view c.args.arena.now in
    all_at_end_itself (λ (u : ℕ). Known sets c.loop-spread.self u c.args.right) c.args.spreads.now (spreads_at sets c.args.left) c.loop-spread.spread-index
    c.requires.spreads c.loop-spread-test.false c.loop-spread.invariant.known
