use Rattle.std.proofs.Common.{◌≡◌, ◌∙◌, ℕ, List, ap, get_or, take, length, subst, false, refl, arith}
use Rattle.std.proofs.lemmas.List.{get_or-replicate, length-replicate, take_all}
use Rattle.std.specs.List.{list_any}
use Rattle.std.specs.Bool.{◌==◌}
use Rattle.hq_rules_reach.specs.Uses.{numbers_view, uses_at}
use Rattle.hq_rules_reach.specs.Variables.{is_number_used_in}
use Rattle.hq_rules_reach.proofs.AnySoFar.{any_take-more}
use Rattle.hq_rules_reach.proofs.no_unused_variables.used_numbers.Goals as goal

pub loop-at-preserved : goal.loop-at-preserved
loop-at-preserved c = record {
  as_long = c.mark_uses_at.ensures.length ∙ c.loop-at.invariant.as_long;
  marked = λ n below.
      any_take-more (λ j. list_any (λ u. u.name == n) (uses_at (numbers_view c.args.all.now) j)) c.args.definitions.now c.loop-at.at-index 0
      _ _ _ c.loop-at-test.true refl (c.loop-at.invariant.marked n below)
      (c.mark_uses_at.ensures.marked n (omega (arith, c.loop-at.invariant.as_long)));
}

pub loop-at-init : goal.loop-at-init
loop-at-init c = record {
  as_long = ap length c.in_ok-marks.ensures ∙ length-replicate _ _;
  marked = λ n below. ap (λ marks. get_or marks n false) c.in_ok-marks.ensures ∙ get_or-replicate c.args.count n false false below;
}

pub returns : goal.returns
returns c = λ n below.
    let all : take c.loop-at.at-index c.args.definitions.now ≡ c.args.definitions.now = take_all _ _ (omega arith) in
    subst (λ (ds : List ℕ). get_or c.loop-at.marks.items n false ≡ is_number_used_in (numbers_view c.args.all.now) ds n) all (c.loop-at.invariant.marked n below)
