-- The items of a list that pass a test, each seen by a function.
use Rattle.std.proofs.Common.{◌≡◌, ◌∙◌, ℕ, ◌+◌, ◌<◌, Bool, true, false, cond, List, ◌∷◌, length, map, filter, drop, get_or, refl, sym, ap}
use Rattle.std.proofs.lemmas.List.{drop_more}

-- of those from a place on, the first is the item there, where it passes
pub passed_from : {A B : Type 0} (p : A → Bool) (f : A → B) (xs : List A) (i : ℕ) (x : A) → i < length xs → x ≡ get_or xs i x
    → map f (filter p (drop i xs)) ≡ cond (p x) (f x ∷ map f (filter p (drop (i + 1) xs))) (map f (filter p (drop (i + 1) xs)))
passed_from p f xs i x below is =
    let rest = drop (i + 1) xs in
    ap (λ ys. map f (filter p ys)) (drop_more xs i x below ∙ ap (λ y. y ∷ rest) (sym is))
    ∙ (elim (p x) as (λ b. map f (cond b (x ∷ filter p rest) (filter p rest)) ≡ cond b (f x ∷ map f (filter p rest)) (map f (filter p rest))) [
      | true ↦ refl
      | false ↦ refl
    ])
