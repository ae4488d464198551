-- One more field was compared with each of the other set.
use Rattle.std.proofs.Common.{rules}
use Rattle.hq_overlap_sets.specs.declared.sets.Entry.{Entry}
use Rattle.hq_overlap_sets.specs.Pairs.{fields_at}
use Rattle.hq_overlap_sets.specs.Sets.{FieldTree, field_in, arena_view}
use Rattle.hq_rules_overlap.specs.Walk.{ComparedWith}
use Rattle.hq_rules_overlap.proofs.Steps.{step_refl, step_then, with_kept}
use Rattle.hq_overlap_sets.proofs.Stepping.{all_more_item, contained_item, all_at_end}
use Rattle.hq_rules_overlap.proofs.walk.Walk.compare_sets.Goals as goal

pub compare_with-requires-clause-sound : goal.compare_with-requires-clause-sound
compare_with-requires-clause-sound c = c.loop-a.invariant.step.sound c.requires.sound

pub compare_with-requires-clause-first : goal.compare_with-requires-clause-first
compare_with-requires-clause-first c =
    contained_item (field_in c.args.arena.now) c.args.ours.now (fields_at (arena_view c.args.arena.now) c.args.left) c.loop-a.a-index c.a-item.result c.requires.ours c.loop-a-test.true c.a-item.is

pub loop-a-init : goal.loop-a-init
loop-a-init c = record { step = step_refl (arena_view c.args.arena.now) c.args.self.now; compared = search rules }

pub loop-a-preserved : goal.loop-a-preserved
loop-a-preserved c =
    let sets = arena_view c.args.arena.now in
    let bs = fields_at sets c.args.right in
    record {
      step = step_then sets c.args.self.now c.loop-a.self c.compare_with.new.self c.loop-a.invariant.step c.in_ok-compare_with.ensures.step;
      compared =
          all_more_item (λ (e : Entry). ComparedWith sets c.loop-a.self (field_in c.args.arena.now e) bs) (λ (e : Entry). ComparedWith sets c.compare_with.new.self (field_in c.args.arena.now e) bs)
          (λ e. with_kept sets c.loop-a.self c.compare_with.new.self (field_in c.args.arena.now e) bs c.in_ok-compare_with.ensures.step)
          c.args.ours.now c.loop-a.a-index c.a-item.result c.loop-a-test.true c.a-item.is c.loop-a.invariant.compared c.in_ok-compare_with.ensures.compared;
    }

pub returns-clause-compared : goal.returns-clause-compared
returns-clause-compared c =
    let sets = arena_view c.args.arena.now in
    let bs = fields_at sets c.args.right in
    all_at_end (field_in c.args.arena.now) (λ (f : FieldTree). ComparedWith sets c.loop-a.self f bs) c.args.ours.now (fields_at sets c.args.left) c.loop-a.a-index
    c.requires.ours c.loop-a-test.false c.loop-a.invariant.compared
