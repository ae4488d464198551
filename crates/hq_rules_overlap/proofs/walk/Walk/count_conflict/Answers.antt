-- What is counted is a conflict, and behind one that is known all is counted.
use Rattle.std.proofs.Common.{◌∙◌, ap, sym, refl, subst, Option, ℕ}
use Rattle.hq_gql_nodes.specs.Least.{earlier, at_if}
use Rattle.hq_overlap_sets.specs.Pairs.{later, AtMost}
use Rattle.hq_overlap_sets.specs.Sets.{field_in, arena_view}
use Rattle.hq_overlap_sets.proofs.FieldTests.{violates_by, by_violates}
use Rattle.hq_rules_overlap.proofs.Places.{known_low}
use Rattle.hq_rules_overlap.proofs.Steps.{count_step, counted_now, step_refl}
use Rattle.hq_rules_overlap.proofs.walk.Walk.count_conflict.Goals as goal

pub returns-then-is_at_most-clause-step : goal.returns-then-is_at_most-clause-step
returns-then-is_at_most-clause-step c = step_refl (arena_view c.args.arena.now) c.args.self.now

pub returns-then-is_at_most-clause-counted : goal.returns-then-is_at_most-clause-counted
returns-then-is_at_most-clause-counted c =
    λ _. subst (AtMost c.args.self.now.best) c.later-at.ensures
    (known_low c.args.self.now.best c.later-at.result (sym c.is_at_most.ensures ∙ c.if-is_at_most.true))

pub returns-clause-step : goal.returns-clause-step
returns-clause-step c =
    let sets = arena_view c.args.arena.now in
    let a = field_in c.args.arena.now c.args.a.now in
    let b = field_in c.args.arena.now c.args.b.now in
    let apart = c.in_ok-apart.apart in
    count_step sets c.args.self.now c.count.new.self apart (later a b) c.count.ensures.pairs c.count.ensures.marks
    (c.count.ensures.best ∙ ap (λ (n : ℕ). earlier c.args.self.now.best (at_if apart n)) c.later-at.ensures)
    (λ held. record {
      s = c.args.left;
      t = c.args.right;
      a = a;
      b = b;
      together = c.requires.together;
      first = c.requires.first;
      second = c.requires.second;
      violates = violates_by a b c.requires.key (sym c.in_ok-apart.ensures ∙ held);
      place = refl;
    })

pub returns-clause-counted : goal.returns-clause-counted
returns-clause-counted c = λ v.
    let a = field_in c.args.arena.now c.args.a.now in
    let b = field_in c.args.arena.now c.args.b.now in
    let best = c.args.self.now.best in
    let apart = c.in_ok-apart.apart in
    subst (λ (o : Option ℕ). AtMost o (later a b)) (sym (c.count.ensures.best ∙ ap (λ (n : ℕ). earlier best (at_if apart n)) c.later-at.ensures))
    (counted_now best apart (later a b) (c.in_ok-apart.ensures ∙ by_violates a b v))
