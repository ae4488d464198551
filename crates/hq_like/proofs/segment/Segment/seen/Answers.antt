use Rattle.std.proofs.Common.{◌≡◌, ◌∙◌, ◌<◌, None, Some, length, get_or, ap, sym, subst, arith}
use Rattle.std.proofs.lemmas.List.{get_or_default}
use Rattle.hq_like.specs.Backs.{IsBack}
use Rattle.hq_like.specs.Places.{after_places}
use Rattle.hq_like.specs.Reading.{read}
use Rattle.hq_like.proofs.Searches.{letters_met, letters_missed}
use Rattle.hq_like.proofs.segment.Segment.seen.Goals as goal

pub returns-in-Some : goal.returns-in-Some
returns-in-Some c =
    let s = c.args.self.now in
    let text = read c.args.fold c.args.left.now in
    let rest = read c.args.fold c.in-Some.rest.now in
    let all : c.args.state ≡ length s.letters.items = omega (arith, c.requires.within, s.letters.ok.0) in
    let found : after_places s.tail.items text ≡ Some rest = ap (λ ps. after_places ps text) (sym c.deref.ensures.value) ∙ c.in-Some.ensures in
    λ later. letters_met s.letters.items s.tail.items later c.args.state text rest all found

pub returns-in-None : goal.returns-in-None
returns-in-None c =
    let s = c.args.self.now in
    let text = read c.args.fold c.args.left.now in
    let back = c.index.result.now in
    let all : c.args.state ≡ length s.letters.items = omega (arith, c.requires.within, s.letters.ok.0) in
    let inside : c.args.state < length s.backs.items = omega (arith, all, s.many, s.backs.ok.0) in
    let entry : get_or s.backs.items c.args.state 0 ≡ back = get_or_default s.backs.items c.args.state 0 back inside ∙ sym c.index.ensures in
    let told : IsBack s.letters.items c.args.state (get_or s.backs.items c.args.state 0) = s.right c.args.state (omega (arith, all, c.requires.some)) c.requires.within in
    let is : IsBack s.letters.items c.args.state back = subst (λ b. IsBack s.letters.items c.args.state b) entry told in
    let shorter = is.shorter in
    let missed : after_places s.tail.items text ≡ None = ap (λ ps. after_places ps text) (sym c.deref.ensures.value) ∙ c.in-None.ensures in
    (omega (arith, shorter, all), λ later. letters_missed s.letters.items s.tail.items later c.args.state back text all c.requires.some is missed)
