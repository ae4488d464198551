-- std's sort by a closure that compares by a total order of what n takes of each item.
use Rattle.std.proofs.Common.{◌≡◌, List, Bool, Ordering, is_lt, ap}
use Rattle.std.specs.Cmp.{IsTotalOrder, IsStrictWeakOrder}
use Rattle.std.specs.Fn.{ComparesAs, Called}
use Rattle.std.specs.List.Sorted.{IsSortedBy, IsStableBy}
use Rattle.std.specs.Ordering.{on}
use Rattle.std.proofs.lemmas.Fn.{always_returns_same}
use Rattle.std.proofs.lemmas.List.Sorted.{ranks_by}
use Rattle.std.proofs.lemmas.Cmp.{on_total}
use denote.Ref.{Bor}
use denote.Param.Members.{Mut}
use Rattle.hq_base.specs.Lists.{sort}
use Rattle.hq_base.proofs.StableSorts.{std_sort}

pub sorted_by_closure : {X K F : Type 0} {R : K → K → Ordering} (o : IsTotalOrder R) (n : X → K) {g : Mut F (Bor X × (Bor X × Unit {0})) Ordering} {f : F} (xs ys : List X)
    → ((lt : X → X → Bool) → IsStrictWeakOrder lt → ComparesAs g lt f → IsSortedBy lt ys)
    → ((lt : X → X → Bool) → IsStrictWeakOrder lt → ComparesAs g lt f → IsStableBy lt xs ys)
    → ((a : Bor X × (Bor X × Unit {0})) (r : Ordering) (f' : F) → Called g f a r f' → (r ≡ R (n a.0.now) (n a.1.0.now)) × (f' ≡ f))
    → ys ≡ sort (on n R) xs
sorted_by_closure {X = X} {R = R} o n {g = g} {f = f} xs ys sorted stable h =
    let lt : X → X → Bool = λ x y. is_lt (R (n x) (n y)) in
    let same : ComparesAs g lt f = always_returns_same g (λ a r. is_lt r ≡ is_lt (R (n a.0.now) (n a.1.0.now))) f (λ a r f' k. (ap is_lt (h a r f' k).0, (h a r f' k).1)) in
    std_sort (on_total n o) xs ys (sorted lt (ranks_by o n) same) (stable lt (ranks_by o n) same)
