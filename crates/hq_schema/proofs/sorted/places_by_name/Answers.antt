use Rattle.std.proofs.Common.{◌∙◌, ap, ℕ, List, map}
use Rattle.std.specs.Cmp.Lexicographic.{slice_cmp}
use Rattle.std.specs.Ordering.{nat_cmp}
use Rattle.hq_base.specs.Lists.{sort}
use Rattle.hq_schema.specs.declared.sorted.Entry.{Entry}
use Rattle.hq_schema.proofs.FirstPlace.{places_of_sorted}
use Rattle.hq_schema.proofs.sorted.places_by_name.Goals as goal

pub returns : goal.returns
returns g c =
    let entry : Entry → List ℕ × ℕ = λ (e : Entry). (e.name.now, e.at) in
    let at : List ℕ × ℕ → ℕ = λ (e : List ℕ × ℕ). e.1 in
    let by_text = λ (x y : List ℕ × ℕ). slice_cmp nat_cmp x.0 y.0 in
    c.in_ok-places.ensures
    ∙ (ap (λ (es : List Entry). map at (sort by_text (map entry es))) c.deref_mut.ensures.value
    ∙ (ap (λ (es : List (List ℕ × ℕ)). map at (sort by_text es)) c.in_ok-entries.ensures ∙ places_of_sorted (map g.T.Named.name_of c.args.items.now)))
