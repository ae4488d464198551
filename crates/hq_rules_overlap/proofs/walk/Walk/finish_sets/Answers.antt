-- The three parts of a pair.
use Rattle.std.proofs.Common.{ℕ}
use Rattle.std.proofs.lemmas.List.Elements.{All-weaker}
use Rattle.std.proofs.lemmas.Result.{on_ok_weaker}
use Rattle.hq_overlap_sets.specs.Pairs.{fields_at, spreads_at}
use Rattle.hq_overlap_sets.specs.Sets.{FieldTree, arena_view}
use Rattle.hq_rules_overlap.specs.Walk.{Known, ComparedWith}
use Rattle.hq_rules_overlap.proofs.Steps.{step_then, known_kept, with_kept}
use Rattle.hq_overlap_sets.proofs.Stepping.{on_ok_weaker2}
use Rattle.hq_rules_overlap.proofs.walk.Walk.finish_sets.Goals as goal

pub spread_left-requires-clause-sound : goal.spread_left-requires-clause-sound
spread_left-requires-clause-sound c = c.in_ok-compare_sets.ensures.step.sound c.requires.sound

pub spread_right-requires-clause-sound : goal.spread_right-requires-clause-sound
spread_right-requires-clause-sound c = c.in_ok-spread_left.ensures.step.sound (c.in_ok-compare_sets.ensures.step.sound c.requires.sound)

pub returns-clause-step : goal.returns-clause-step
returns-clause-step c =
    let sets = arena_view c.args.arena.now in
    let start = c.args.self.now in
    let one = c.compare_sets.new.self in
    let two = c.spread_left.new.self in
    on_ok_weaker c.spread_right.result
    (step_then sets start two c.spread_right.new.self (step_then sets start one two c.in_ok-compare_sets.ensures.step c.in_ok-spread_left.ensures.step)) c.spread_right.ensures.step

pub returns-clause-done : goal.returns-clause-done
returns-clause-done c =
    let sets = arena_view c.args.arena.now in
    let one = c.compare_sets.new.self in
    let two = c.spread_left.new.self in
    let three = c.spread_right.new.self in
    let bs = fields_at sets c.args.right in
    on_ok_weaker2 c.spread_right.result
    (λ step known. record {
      fields = All-weaker (λ (a : FieldTree). ComparedWith sets one a bs) (λ (a : FieldTree). ComparedWith sets three a bs)
          (λ a. with_kept sets one three a bs (step_then sets one two three c.in_ok-spread_left.ensures.step step))
          (fields_at sets c.args.left) c.in_ok-compare_sets.ensures.compared;
      left = All-weaker (λ (u : ℕ). Known sets two u c.args.right) (λ (u : ℕ). Known sets three u c.args.right)
          (λ u. known_kept sets two three u c.args.right step) (spreads_at sets c.args.left) c.in_ok-spread_left.ensures.known;
      right = known;
    })
    c.spread_right.ensures.step c.spread_right.ensures.known
