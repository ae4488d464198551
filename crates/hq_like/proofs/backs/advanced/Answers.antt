use Rattle.std.proofs.Common.{◌≡◌, ◌∙◌, ◌<◌, ◌≤◌, ◌==◌, false, length, get_or, arith}
use Rattle.std.proofs.lemmas.Bool.{ne_eqb}
use Rattle.std.proofs.lemmas.List.{get_or_default}
use Rattle.hq_like.specs.Backs.{IsBack}
use Rattle.hq_like.proofs.Letters.{waits_back}
use Rattle.hq_like.proofs.backs.advanced.Goals as goal

pub loop-state-preserved : goal.loop-state-preserved
loop-state-preserved c =
    let letters = c.args.letters.now in
    let state = c.loop-state.state in
    let within : state ≤ c.args.read = c.loop-state.invariant.within in
    let lt : state < length letters = omega (arith, within, c.requires.inside) in
    let some : 0 < state = omega arith in
    let letter : c.index-letters-state.result ≡ get_or letters state 0 = c.index-letters-state.is ∙ get_or_default letters state c.index-letters-state.result 0 lt in
    let other : (get_or letters state 0 == c.args.letter) ≡ false = ne_eqb (get_or letters state 0) c.args.letter (λ h. omega (arith, h, letter)) in
    let is : IsBack letters state (get_or c.args.backs.now state 0) = c.requires.backs state some within in
    let shorter = is.shorter in
    record { within = omega (arith, shorter, within); waits = waits_back letters c.args.letter c.args.read state (get_or c.args.backs.now state 0) c.loop-state.invariant.waits lt some other is }
