use Rattle.std.proofs.Common.{◌≡◌, ◌∙◌, ◌++◌, [], ap, sym}
use Rattle.hq_like.specs.Parts.{behind_any, joined}
use Rattle.hq_like.specs.Places.{places_view}
use Rattle.hq_like.specs.Segments.{tail_then, with_segment}
use Rattle.hq_like.specs.Signs.{signs_view}
use Rattle.hq_like.proofs.Parted.{joined_more}
use Rattle.hq_like.proofs.parts.segments.Goals as goal

pub segments-preserved : goal.segments-preserved
segments-preserved c =
    let ss = c.segments.middle.items in
    let s = c.in_ok-of-in-Some.field-0 in
    let places = c.in_ok-cut.cut.places.items in
    let later = signs_view c.in-Some.later.now in
    let left : signs_view c.segments.left.now ≡ tail_then places later = c.in_ok-cut.ensures.same ∙ ap (λ o. places_view places ++ behind_any o) c.in-Some.is in
    let found : tail_then c.deref.result.now later ≡ with_segment s later = sym (c.in_ok-of-in-Some.ensures later) in
    let whole : tail_then places later ≡ with_segment s later = ap (λ ps. tail_then ps later) (sym c.deref.ensures.value) ∙ found in
    c.segments.invariant ∙ ap (joined ss) (left ∙ whole) ∙ sym (joined_more ss s later) ∙ ap (λ l. joined l later) (sym c.in_ok-push-in-Some.ensures.items)
