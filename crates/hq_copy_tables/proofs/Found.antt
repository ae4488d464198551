-- Places that are found in lists.
use Rattle.std.proofs.Common.{◌≡◌, ℕ, suc, ◌+◌, ◌≤◌, List, [], ◌∷◌, length, map, Bool, true, false, cond, ltb, ◌||◌, Some, None, refl, ap, arith}
use Rattle.std.proofs.lemmas.Bool.Decides.{nat_tests}
use Rattle.std.specs.List.{list_any, position_or_len}
use Rattle.std.specs.Prelude.{not}

-- some item is seen as one for which a test is true
pub any_map : {A B : Type 0} (p : B → Bool) (f : A → B) (xs : List A) → list_any p (map f xs) ≡ list_any (λ x. p (f x)) xs
any_map p f [] = refl
any_map p f (x ∷ xs) = ap (λ b. p (f x) || b) (any_map p f xs)

-- the first place at which it is true
pub place_map : {A B : Type 0} (p : B → Bool) (f : A → B) (xs : List A) → position_or_len p (map f xs) ≡ position_or_len (λ x. p (f x)) xs
place_map p f [] = refl
place_map p f (x ∷ xs) = ap (λ n. cond (not (p (f x))) (1 + n) 0) (place_map p f xs)

-- it is not beyond the list
pub place_within : {A : Type 0} (p : A → Bool) (xs : List A) → position_or_len p xs ≤ length xs
place_within p [] = omega arith
place_within p (x ∷ xs) =
    let rest : position_or_len p xs ≤ length xs = place_within p xs in
    let go : (b : Bool) → cond (not b) (1 + position_or_len p xs) 0 ≤ suc (length xs) = elim [ true ↦ omega arith | false ↦ omega arith ] in
    go (p x)

-- the place that is found
pub found_place : {A : Type 0} (p : A → Bool) (xs : List A) (i : ℕ) → Some i ≡ cond (ltb (position_or_len p xs) (length xs)) (Some (position_or_len p xs)) None
    → i ≡ position_or_len p xs
found_place p xs i e =
    let go : (b : Bool) → Some i ≡ cond b (Some (position_or_len p xs)) None → i ≡ position_or_len p xs = elim [ true ↦ λ f. cc | false ↦ λ f. cc ] in
    go (ltb (position_or_len p xs) (length xs)) e

-- or the one behind the last
pub no_place : {A : Type 0} (p : A → Bool) (xs : List A) → None ≡ cond (ltb (position_or_len p xs) (length xs)) (Some (position_or_len p xs)) None → length xs ≡ position_or_len p xs
no_place p xs e =
    let within : position_or_len p xs ≤ length xs = place_within p xs in
    let go : (b : Bool) → ltb (position_or_len p xs) (length xs) ≡ b → None ≡ cond b (Some (position_or_len p xs)) None → length xs ≡ position_or_len p xs =
    elim [ true ↦ λ f g. cc | false ↦ λ f g. grind (arith, nat_tests) ] in
    go (ltb (position_or_len p xs) (length xs)) refl e
