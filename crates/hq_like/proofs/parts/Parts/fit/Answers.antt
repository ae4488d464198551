use Rattle.std.proofs.Common.{◌≡◌, ◌∙◌, None, Some, false, ap, ap₂, sym}
use Rattle.hq_base.specs.Patterns.{meets, some_end}
use Rattle.hq_like.specs.Parts.{behind_front, joined}
use Rattle.hq_like.specs.Places.{after_places, places_view}
use Rattle.hq_like.specs.Reading.{read}
use Rattle.hq_like.proofs.Parted.{parted}
use Rattle.hq_like.proofs.parts.Parts.fit.Goals as goal

pub returns-in_default : goal.returns-in_default
returns-in_default c =
    let p = c.args.self.now in
    let text = read c.args.fold c.args.text.now in
    let missed : after_places p.front.items text ≡ None = ap (λ ps. after_places ps text) (sym c.deref.ensures.value) ∙ c.in_default.ensures in
    sym (parted p.front.items (behind_front p.middle.items p.last) text None missed)

pub returns-in-None : goal.returns-in-None
returns-in-None c =
    let p = c.args.self.now in
    let text = read c.args.fold c.args.text.now in
    let rest = read c.args.fold c.in-Some.rest.now in
    let met : after_places p.front.items text ≡ Some rest = ap (λ ps. after_places ps text) (sym c.deref.ensures.value) ∙ c.in-Some.ensures in
    c.at_end.ensures ∙ sym (parted p.front.items (behind_front p.middle.items p.last) text (Some rest) met ∙ ap (λ l. meets false (behind_front p.middle.items l) rest) c.in-None.is)

pub returns-in-Some-last : goal.returns-in-Some-last
returns-in-Some-last c =
    let p = c.args.self.now in
    let text = read c.args.fold c.args.text.now in
    let rest = read c.args.fold c.in-Some.rest.now in
    let met : after_places p.front.items text ≡ Some rest = ap (λ ps. after_places ps text) (sym c.deref.ensures.value) ∙ c.in-Some.ensures in
    c.found.ensures ∙ ap₂ (λ m l. some_end (meets false (joined m (places_view l))) rest) c.deref-in-Some-last.ensures.value c.deref-in-Some-last-2.ensures.value
    ∙ sym (parted p.front.items (behind_front p.middle.items p.last) text (Some rest) met ∙ ap (λ l. meets false (behind_front p.middle.items l) rest) c.in-Some-last.is)
