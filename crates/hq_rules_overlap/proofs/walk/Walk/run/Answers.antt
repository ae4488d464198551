-- One more pair is done; where no pair is left, the place so far is the first.
use Rattle.std.proofs.Common.{sym}
use Rattle.hq_overlap_sets.specs.Sets.{arena_view}
use Rattle.hq_rules_overlap.proofs.Closed.{is_first, done_more, met_at, all_done, none_beyond, roots_kept, done_none}
use Rattle.hq_rules_overlap.proofs.walk.Walk.run.Goals as goal

pub loop-at-init : goal.loop-at-init
loop-at-init c = record { sound = c.requires.sound; roots = c.requires.roots; done = done_none (arena_view c.args.arena.now) c.args.self.now }

pub finish-requires-clause-together : goal.finish-requires-clause-together
finish-requires-clause-together c =
    c.loop-at.invariant.sound.together c.in-Some.pair.left c.in-Some.pair.right (met_at c.loop-at.self c.loop-at.at c.in-Some.pair (sym c.in-Some.ensures))

pub loop-at-preserved : goal.loop-at-preserved
loop-at-preserved c =
    let sets = arena_view c.args.arena.now in
    record {
      sound = c.in_ok-finish.ensures.step.sound c.loop-at.invariant.sound;
      roots = roots_kept sets c.loop-at.self c.finish.new.self _ c.in_ok-finish.ensures.step c.loop-at.invariant.roots;
      done = done_more sets c.loop-at.self c.finish.new.self c.loop-at.at c.in-Some.pair c.in_ok-finish.ensures.step (sym c.in-Some.ensures) c.loop-at.invariant.done c.in_ok-finish.ensures.done;
    }

pub returns-in_default : goal.returns-in_default
returns-in_default c =
    let sets = arena_view c.args.arena.now in
    let q = c.loop-at.self in
    is_first sets q (all_done sets q c.loop-at.at (none_beyond q c.loop-at.at (sym c.in_default.ensures)) c.loop-at.invariant.done) c.loop-at.invariant.roots c.loop-at.invariant.sound
