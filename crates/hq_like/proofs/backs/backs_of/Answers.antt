use Rattle.std.proofs.Common.{◌≡◌, ◌∙◌, ◌<◌, ◌+◌, ◌++◌, ◌∷◌, [], take, length, get_or, sym, subst, arith}
use Rattle.std.proofs.lemmas.List.{get_or_default}
use Rattle.hq_like.specs.Backs.{AreBacks, IsBack, Reads}
use Rattle.hq_like.proofs.Letters.{back_more, backs_more}
use Rattle.hq_like.proofs.backs.backs_of.Goals as goal

pub loop-at-preserved : goal.loop-at-preserved
loop-at-preserved c =
    let letters = c.args.letters.now in
    let at = c.loop-at.at in
    let next = c.advanced-state.result in
    let old = c.loop-at.invariant in
    let lt : at < length letters = omega arith in
    let some : 0 < at = omega arith in
    let letter : c.index-letters-at.result ≡ get_or letters at 0 = c.index-letters-at.is ∙ get_or_default letters at c.index-letters-at.result 0 lt in
    let reads : Reads letters (take c.loop-at.state letters ++ get_or letters at 0 ∷ []) next =
    subst (λ x. Reads letters (take c.loop-at.state letters ++ x ∷ []) next) letter c.advanced-state.ensures.reads in
    let is : IsBack letters (at + 1) next = back_more letters at c.loop-at.state next some lt old.last c.advanced-state.ensures.within reads in
    let many : length c.loop-at.backs.items ≡ at + 1 = omega (arith, old.many, c.loop-at.backs.ok.0) in
    record {
      many = omega (arith, old.many, c.in_ok-push-3.ensures.len);
      all = subst (λ l. AreBacks letters l (at + 1)) (sym c.in_ok-push-3.ensures.items) (backs_more letters c.loop-at.backs.items at next many old.all is);
      last = is;
    }
