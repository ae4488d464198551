use Rattle.std.proofs.Common.{◌∙◌, sym, ap, subst, take, [], ◌∷◌, ◌++◌, Vec, Global, arith}
use Rattle.std.proofs.lemmas.List.{take_more, take_all}
use Rattle.std.proofs.lemmas.List.Elements.{All-push}
use Rattle.hq_rules_reach.specs.declared.uses.Use.{Use}
use Rattle.hq_rules_reach.specs.Summaries.{Ascends, EachAscends}
use Rattle.hq_rules_reach.proofs.summaries.each_ascends.Goals as goal

pub loop-uses-preserved : goal.loop-uses-preserved
loop-uses-preserved c =
    let all = c.args.all.now in
    let i = c.loop-uses.uses-index in
    let u = c.uses-item.result in
    subst EachAscends
    (sym (take_more all i u c.loop-uses-test.true ∙ ap (λ (x : Vec Use Global). take i all ++ x ∷ []) (sym c.uses-item.is)))
    (All-push (λ (us : Vec Use Global). Ascends 0 us.items) (take i all) u c.loop-uses.invariant
    (subst (Ascends 0) c.deref.ensures.value (c.ascends.ensures c.if-not-ascends.false)))

pub returns : goal.returns
returns c = λ _. subst EachAscends (take_all c.loop-uses.uses-index c.args.all.now (omega arith)) c.loop-uses.invariant
