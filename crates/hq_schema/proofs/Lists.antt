-- Lists of values that are seen by a function.
use Rattle.std.proofs.Common.{◌≡◌, refl, ◌∙◌, ap, sym, ℕ, Bool, true, false, cond, List, [], ◌∷◌, length, map, not, ◌+◌, Option, Some, None}
use Rattle.std.specs.Prelude.{find, position, option_map, option_copied, slice_get, nat_lt}
use Rattle.std.specs.Borrow.{Bor}
use Rattle.std.specs.List.{position_or_len}
use Rattle.std.proofs.lemmas.Bool.{ltb-false}
use Rattle.std.proofs.lemmas.List.{length-map}
use Rattle.std.proofs.lemmas.List.Folds.{find_at}
use Rattle.std.proofs.lemmas.Option.{slice_get_past}

-- the first of the seen items that passes a test is what the first item passing it is seen as
find-map : {A B : Type 0} (p : B → Bool) (f : A → B) (xs : List A) → find p (map f xs) ≡ option_map f (find (λ x. p (f x)) xs)
find-map p f [] = refl
find-map p f (x ∷ xs) =
    (elim (p (f x)) as (λ b. cond b (Some (f x)) (find p (map f xs)) ≡ option_map f (cond b (Some x) (find (λ x. p (f x)) xs))) [
      | true ↦ refl
      | false ↦ find-map p f xs
    ])

-- the same of a reference to that item
pub found_seen : {A B : Type 0} (p : B → Bool) (f : A → B) (xs : List A) (r : Option (Bor A)) →
    option_copied r ≡ find (λ x. p (f x)) xs → option_map (λ x. f x.now) r ≡ find p (map f xs)
found_seen p f xs None found = ap (option_map f) found ∙ sym (find-map p f xs)
found_seen p f xs (Some r) found = ap (option_map f) found ∙ sym (find-map p f xs)

-- how many of the seen items stand before the first that passes a test
position_or_len-map : {A B : Type 0} (p : B → Bool) (f : A → B) (xs : List A) → position_or_len p (map f xs) ≡ position_or_len (λ x. p (f x)) xs
position_or_len-map p f [] = refl
position_or_len-map p f (x ∷ xs) = ap (λ n. cond (not (p (f x))) (1 + n) 0) (position_or_len-map p f xs)

-- the place of the first of the seen items that passes a test
pub position-map : {A B : Type 0} (p : B → Bool) (f : A → B) (xs : List A) → position (λ x. p (f x)) xs ≡ position p (map f xs)
position-map p f xs = rw (position_or_len-map p f xs, length-map xs f) refl

-- what stands at that place is the first item that passes, and where there is none, none passes
pub found_at : {A : Type 0} (p : A → Bool) (xs : List A) (i : ℕ) → Some i ≡ position p xs → slice_get xs i ≡ find p xs
found_at p xs i e = by (nat_lt (position_or_len p xs) (length xs)) refl
  where
    by : (b : Bool) → nat_lt (position_or_len p xs) (length xs) ≡ b → slice_get xs i ≡ find p xs
    by true lt =
        let is : Some i ≡ Some (position_or_len p xs) = rw lt at e in
        let same : i ≡ position_or_len p xs = cc in
        ap (slice_get xs) same ∙ sym (find_at p xs)
    by false lt = let is : Some i ≡ None = rw lt at e in cc

pub none_at : {A : Type 0} (p : A → Bool) (xs : List A) → None ≡ position p xs → None ≡ find p xs
none_at p xs e = by (nat_lt (position_or_len p xs) (length xs)) refl
  where
    by : (b : Bool) → nat_lt (position_or_len p xs) (length xs) ≡ b → None ≡ find p xs
    by true lt = let is : None ≡ Some (position_or_len p xs) = rw lt at e in cc
    by false lt = sym (slice_get_past xs (position_or_len p xs) (ltb-false (position_or_len p xs) (length xs) lt)) ∙ sym (find_at p xs)
