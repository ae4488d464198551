use Rattle.std.proofs.Common.{◌≡◌, ◌∙◌, ◌||◌, List, map, get_or, take, subst, false, refl, arith}
use Rattle.std.proofs.lemmas.List.{take_all}
use Rattle.std.specs.List.{list_any}
use Rattle.std.specs.Bool.{◌==◌}
use Rattle.hq_rules_reach.specs.Uses.{number_view}
use Rattle.hq_rules_reach.specs.declared.uses.Use.{Use}
use Rattle.hq_rules_reach.proofs.AnySoFar.{any_or_take-more}
use Rattle.hq_rules_reach.proofs.no_unused_variables.mark_uses.Goals as goal

pub loop-found-preserved : goal.loop-found-preserved
loop-found-preserved c = record {
  as_long = c.mark.ensures.length ∙ c.loop-found.invariant.as_long;
  marked = λ n below.
      any_or_take-more (λ u. u.name == n) number_view c.args.uses.now c.loop-found.found-index c.found-item.result c.found-item.result _ _ _
      c.loop-found-test.true c.found-item.is (c.loop-found.invariant.marked n below)
      (c.mark.ensures.marked n (omega (arith, c.loop-found.invariant.as_long)));
}

pub loop-found-init : goal.loop-found-init
loop-found-init c = record { as_long = refl; marked = λ n below. refl }

pub returns-clause-marked : goal.returns-clause-marked
returns-clause-marked c = λ n below.
    let all : take c.loop-found.found-index c.args.uses.now ≡ c.args.uses.now = take_all _ _ (omega arith) in
    subst
    (λ (us : List Use). get_or c.loop-found.marks.items n false
    ≡ (list_any (λ u. u.name == n) (map number_view us) || get_or c.args.marks.now.items n false))
    all (c.loop-found.invariant.marked n below)
