-- One more set is covered.
use Rattle.std.proofs.Common.{rules, arith}
use Rattle.std.proofs.lemmas.List.{length-map}
use Rattle.hq_overlap_sets.specs.Sets.{set_in, arena_view}
use Rattle.hq_rules_overlap.proofs.Explored.{covered_more}
use Rattle.hq_rules_overlap.proofs.groups.Groups.cover_all.Goals as goal

pub cover-requires-clause-end : goal.cover-requires-clause-end
cover-requires-clause-end c = c.loop-set.invariant.end

pub cover-requires-clause-inside : goal.cover-requires-clause-inside
cover-requires-clause-inside c =
    let a = c.args.arena.now in
    let long = length-map a.sets.items (set_in a) in
    omega (arith, long)

pub loop-set-init : goal.loop-set-init
loop-set-init c = record { end = c.requires; covered = λ s h. absurd (omega (arith, h)) }

pub loop-set-preserved : goal.loop-set-preserved
loop-set-preserved c =
    record {
      end = c.in_ok-going.ensures.end (search rules);
      covered =
          covered_more (arena_view c.args.arena.now) c.loop-set.self c.cover.new.self c.args.passed.now c.loop-set.set
          (c.in_ok-going.ensures.goes (search rules)) c.loop-set.invariant.covered (c.in_ok-going.ensures.covered (search rules));
    }

pub returns-then-not-going-clause-best : goal.returns-then-not-going-clause-best
returns-then-not-going-clause-best c = c.in_ok-going.ensures.best

pub returns-clause-best : goal.returns-clause-best
returns-clause-best c = c.loop-set.invariant.end.sound.best

pub returns-clause-end : goal.returns-clause-end
returns-clause-end c = λ _. c.loop-set.invariant.end

pub returns-clause-covered : goal.returns-clause-covered
returns-clause-covered c = λ _ s h not_passed.
    let a = c.args.arena.now in
    let long = length-map a.sets.items (set_in a) in
    c.loop-set.invariant.covered s (omega (arith, long, h)) not_passed
