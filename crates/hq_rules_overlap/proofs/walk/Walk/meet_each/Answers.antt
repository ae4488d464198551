-- One more set was put together with itself.
use Rattle.std.proofs.Common.{◌≡◌, ℕ, length, arith}
use Rattle.std.proofs.lemmas.List.{length-map}
use borrow.Author.Count.{below_more}
use Rattle.hq_overlap_sets.specs.Sets.{set_in, arena_view}
use Rattle.hq_overlap_sets.specs.Together as walk
use Rattle.hq_rules_overlap.specs.Walk.{Known}
use Rattle.hq_rules_overlap.proofs.Closed.{roots_kept}
use Rattle.hq_rules_overlap.proofs.walk.Walk.meet_each.Goals as goal

pub meet-requires-clause-sound : goal.meet-requires-clause-sound
meet-requires-clause-sound c = c.loop-set.invariant.sound

pub meet-requires-clause-together : goal.meet-requires-clause-together
meet-requires-clause-together c =
    let a = c.args.arena.now in
    let e : length (arena_view a) ≡ length a.sets.items = length-map a.sets.items (set_in a) in
    walk.alone (omega (arith, e))

pub loop-set-preserved : goal.loop-set-preserved
loop-set-preserved c =
    let sets = arena_view c.args.arena.now in
    record {
      sound = c.in_ok-meet.ensures.step.sound c.loop-set.invariant.sound;
      roots = below_more (λ (s : ℕ). Known sets c.meet.new.self s s) c.loop-set.set
          (roots_kept sets c.loop-set.self c.meet.new.self c.loop-set.set c.in_ok-meet.ensures.step c.loop-set.invariant.roots) c.in_ok-meet.ensures.known;
    }
