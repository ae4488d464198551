-- The first of each group, found with a set of those that were seen.
use Rattle.std.proofs.Common.{◌≡◌, List, [], ◌∷◌, filter, Bool, true, false, cond, not, ◌&&◌, ◌||◌, refl, sym, ap, ◌∙◌}
use Rattle.hq_base.specs.Lists.{firsts}
use Rattle.hq_base.proofs.Lists.{filter_filter}

-- tests that agree keep the same items
filter_same : {A : Type 0} (p q : A → Bool) → ((x : A) → p x ≡ q x) → (xs : List A) → filter p xs ≡ filter q xs
filter_same p q agree [] = refl
filter_same p q agree (x ∷ xs) = rw (agree x, filter_same p q agree xs) refl

-- the first items of the groups that a test has not seen
abbrev pub fresh : {A : Type 0} → (A → A → Bool) → (seen : A → Bool) → List A → List A
fresh same seen xs = filter (λ x. not (seen x)) (firsts same xs)

not_or : (a b : Bool) → (not a && not b) ≡ not (a || b)
not_or true b = refl
not_or false b = refl

-- an item's group is seen from there on
pub fresh_step : {A : Type 0} (same : A → A → Bool) (seen later : A → Bool) (x : A) → ((y : A) → later y ≡ (same x y || seen y)) → (xs : List A)
    → fresh same seen (x ∷ xs) ≡ cond (seen x) (fresh same later xs) (x ∷ fresh same later xs)
fresh_step {A} same seen later x grows xs =
    let both : (y : A) → (not (same x y) && not (seen y)) ≡ not (later y) = λ y. not_or (same x y) (seen y) ∙ ap not (sym (grows y)) in
    let rest : filter (λ y. not (seen y)) (filter (λ y. not (same x y)) (firsts same xs)) ≡ fresh same later xs =
    filter_filter (λ y. not (seen y)) (λ y. not (same x y)) (firsts same xs) ∙ filter_same (λ y. not (same x y) && not (seen y)) (λ y. not (later y)) both (firsts same xs) in
    let kept : (b : Bool) → cond (not b) (x ∷ filter (λ y. not (seen y)) (filter (λ y. not (same x y)) (firsts same xs))) (filter (λ y. not (seen y)) (filter (λ y. not (same x y)) (firsts same xs)))
    ≡ cond b (fresh same later xs) (x ∷ fresh same later xs) =
    elim [ true ↦ rest | false ↦ ap (λ l. x ∷ l) rest ] in
    kept (seen x)
