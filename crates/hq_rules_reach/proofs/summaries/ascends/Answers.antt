use Rattle.std.proofs.Common.{◌∙◌, sym, ap, subst, drop, List, ◌∷◌, ◌+◌, arith}
use Rattle.std.proofs.lemmas.List.{drop_more, drop_all}
use Rattle.hq_rules_reach.specs.declared.uses.Use.{Use}
use Rattle.hq_rules_reach.specs.Summaries.{Ascends}
use Rattle.hq_rules_reach.proofs.summaries.ascends.Goals as goal

pub loop-found-init : goal.loop-found-init
loop-found-init c = λ h. h

pub loop-found-preserved : goal.loop-found-preserved
loop-found-preserved c = λ h.
    let us = c.args.uses.now in
    let i = c.loop-found.found-index in
    let u = c.found-item.result in
    c.loop-found.invariant
    (subst (λ (xs : List Use). Ascends c.loop-found.last xs)
    (sym (drop_more us i u c.loop-found-test.true ∙ ap (λ x. x ∷ drop (i + 1) us) (sym c.found-item.is)))
    (omega arith, h))

pub returns : goal.returns
returns c = λ h.
    c.loop-found.invariant (subst (λ (xs : List Use). Ascends c.loop-found.last xs) (sym (drop_all c.loop-found.found-index c.args.uses.now (omega arith))) tt)
