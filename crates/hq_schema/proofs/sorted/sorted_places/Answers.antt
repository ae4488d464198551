use Rattle.std.proofs.Common.{◌∙◌, sym, ap, ℕ, List, map}
use Rattle.std.specs.Cmp.Lexicographic.{slice_cmp}
use Rattle.std.specs.Ordering.{nat_cmp}
use Rattle.hq_base.specs.Lists.{sort}
use Rattle.hq_base.proofs.Lists.{map_map}
use Rattle.hq_base.proofs.Sorts.{sort_map}
use Rattle.hq_schema.specs.declared.sorted.Entry.{Entry}
use Rattle.hq_schema.proofs.sorted.sorted_places.Goals as goal

pub returns : goal.returns
returns c =
    let entry : Entry → List ℕ × ℕ = λ (e : Entry). (e.name.now, e.at) in
    let at : List ℕ × ℕ → ℕ = λ (e : List ℕ × ℕ). e.1 in
    let by_text = λ (x y : List ℕ × ℕ). slice_cmp nat_cmp x.0 y.0 in
    let sorted = sort (λ (x y : Entry). by_text (entry x) (entry y)) c.args.entries.now in
    c.in_ok-places.ensures
    ∙ (ap (map (λ (e : Entry). e.at)) c.in_ok-sort.ensures
    ∙ (sym (map_map at entry sorted) ∙ ap (map at) (sym (sort_map entry by_text c.args.entries.now))))
