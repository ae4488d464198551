-- Lists of values that are seen by a function.
use Rattle.std.proofs.Common.{◌≡◌, refl, ◌∙◌, ap, sym, ℕ, Bool, true, false, cond, List, [], ◌∷◌, map, Option, Some, None}
use Rattle.std.specs.Prelude.{find, option_map, option_copied, slice_get}
use Rattle.std.proofs.lemmas.Option.{slice_get-map}
use Rattle.std.specs.Borrow.{Bor}

-- the first of the seen items that passes a test is what the first item passing it is seen as
find-map : {A B : Type 0} (p : B → Bool) (f : A → B) (xs : List A) → find p (map f xs) ≡ option_map f (find (λ x. p (f x)) xs)
find-map p f [] = refl
find-map p f (x ∷ xs) =
    (elim (p (f x)) as (λ b. cond b (Some (f x)) (find p (map f xs)) ≡ option_map f (cond b (Some x) (find (λ x. p (f x)) xs))) [
      | true ↦ refl
      | false ↦ find-map p f xs
    ])

-- a test that says the same finds the same
find-alike : {A : Type 0} (p q : A → Bool) (xs : List A) → ((x : A) → p x ≡ q x) → find p xs ≡ find q xs
find-alike p q [] same = refl
find-alike {A = A} p q (x ∷ xs) same = ap (λ b. cond b (Some x) (find p xs)) (same x) ∙ ap (λ (r : Option A). cond (q x) (Some x) r) (find-alike p q xs same)

-- the first of the seen items that passes a test, by a reference to the item that was found by another test that says the same
pub found_seen : {A B : Type 0} (p : B → Bool) (q : A → Bool) (f : A → B) (xs : List A) (r : Option (Bor A)) → ((x : A) → p (f x) ≡ q x)
    → option_copied r ≡ find q xs → option_map (λ x. f x.now) r ≡ find p (map f xs)
found_seen p q f xs None same found = ap (option_map f) (found ∙ sym (find-alike (λ x. p (f x)) q xs same)) ∙ sym (find-map p f xs)
found_seen p q f xs (Some r) same found = ap (option_map f) (found ∙ sym (find-alike (λ x. p (f x)) q xs same)) ∙ sym (find-map p f xs)

-- the item at a place, by a reference to it
pub got_seen : {A B : Type 0} (f : A → B) (xs : List A) (i : ℕ) (r : Option (Bor A)) → option_copied r ≡ slice_get xs i → option_map (λ x. f x.now) r ≡ slice_get (map f xs) i
got_seen f xs i None got = ap (option_map f) got ∙ sym (slice_get-map f xs i)
got_seen f xs i (Some r) got = ap (option_map f) got ∙ sym (slice_get-map f xs i)
