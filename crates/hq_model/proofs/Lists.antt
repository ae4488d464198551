-- Lists of values that are seen by a function.
use Rattle.std.proofs.Common.{◌≡◌, refl, ◌∙◌, ap, sym, subst, ℕ, suc, ◌+◌, ◌<◌, Bool, true, false, cond, List, [], ◌∷◌, ◌++◌, map, filter, drop, length, get_or, Option, Some, None, append_assoc, drop-cons, arith}
use Rattle.std.specs.Prelude.{find, option_map, option_copied}
use Rattle.std.specs.Borrow.{Bor}

-- the first of the seen items that passes a test is what the first item passing it is seen as
pub find-map : {A B : Type 0} (p : B → Bool) (f : A → B) (xs : List A) → find p (map f xs) ≡ option_map f (find (λ x. p (f x)) xs)
find-map p f [] = refl
find-map p f (x ∷ xs) =
    (elim (p (f x)) as (λ b. cond b (Some (f x)) (find p (map f xs)) ≡ option_map f (cond b (Some x) (find (λ x. p (f x)) xs))) [
      | true ↦ refl
      | false ↦ find-map p f xs
    ])

-- the same of a reference to that item
pub found_seen : {A B : Type 0} (p : B → Bool) (f : A → B) (xs : List A) (r : Option (Bor A)) →
    option_copied r ≡ find (λ x. p (f x)) xs → option_map (λ x. f x.now) r ≡ find p (map f xs)
found_seen p f xs None found = ap (option_map f) found ∙ sym (find-map p f xs)
found_seen p f xs (Some r) found = ap (option_map f) found ∙ sym (find-map p f xs)

-- one more item of a filter that goes through a list
step_on : {A : Type 0} (p : A → Bool) (x : A) (kept rest all : List A) → kept ++ filter p (x ∷ rest) ≡ all → cond (p x) (kept ++ x ∷ []) kept ++ filter p rest ≡ all
step_on p x kept rest all before =
    (elim (p x) as (λ b. kept ++ cond b (x ∷ filter p rest) (filter p rest) ≡ all → cond b (kept ++ x ∷ []) kept ++ filter p rest ≡ all) [
      | true ↦ λ e. append_assoc kept (x ∷ []) (filter p rest) ∙ e
      | false ↦ λ e. e
    ]) before

-- the same at the item of a place
pub filter_step : {A : Type 0} (p : A → Bool) (xs : List A) (i : ℕ) (x : A) (kept : List A) →
    i < length xs → x ≡ get_or xs i x → kept ++ filter p (drop i xs) ≡ filter p xs →
    cond (p x) (kept ++ x ∷ []) kept ++ filter p (drop (i + 1) xs) ≡ filter p xs
filter_step p xs i x kept below at before =
    let split : drop i xs ≡ x ∷ drop (suc i) xs = drop-cons xs i x below ∙ ap (λ y. y ∷ drop (suc i) xs) (sym at) in
    let next : i + 1 ≡ suc i = omega arith in
    subst (λ n. cond (p x) (kept ++ x ∷ []) kept ++ filter p (drop n xs) ≡ filter p xs) (sym next)
    (step_on p x kept (drop (suc i) xs) (filter p xs) (ap (λ ys. kept ++ filter p ys) (sym split) ∙ before))
