-- Lists of values that are seen by a function.
use Rattle.std.proofs.Common.{◌≡◌, refl, ◌∙◌, ap, sym, Bool, true, false, cond, ◌||◌, ℕ, List, [], ◌∷◌, map, Option, Some, None}
use Rattle.std.specs.Prelude.{find, option_map, option_copied}
use Rattle.std.specs.Borrow.{Bor}
use Rattle.std.specs.Map.{lookup}

-- the first of the seen items that passes a test is what the first item passing it is seen as
find-map : {A B : Type 0} (p : B → Bool) (f : A → B) (xs : List A) → find p (map f xs) ≡ option_map f (find (λ x. p (f x)) xs)
find-map p f [] = refl
find-map p f (x ∷ xs) =
    (elim (p (f x)) as (λ b. cond b (Some (f x)) (find p (map f xs)) ≡ option_map f (cond b (Some x) (find (λ x. p (f x)) xs))) [
      | true ↦ refl
      | false ↦ find-map p f xs
    ])

-- a test that says the same finds the same
find-alike : {A : Type 0} (p q : A → Bool) (xs : List A) → ((x : A) → p x ≡ q x) → find p xs ≡ find q xs
find-alike p q [] same = refl
find-alike {A = A} p q (x ∷ xs) same = ap (λ b. cond b (Some x) (find p xs)) (same x) ∙ ap (λ (r : Option A). cond (q x) (Some x) r) (find-alike p q xs same)

-- the first of the seen items that passes a test, by a reference to the item that was found by another test that says the same
pub found_seen : {A B : Type 0} (p : B → Bool) (q : A → Bool) (f : A → B) (xs : List A) (r : Option (Bor A)) → ((x : A) → p (f x) ≡ q x)
    → option_copied r ≡ find q xs → option_map (λ x. f x.now) r ≡ find p (map f xs)
found_seen p q f xs None same found = ap (option_map f) (found ∙ sym (find-alike (λ x. p (f x)) q xs same)) ∙ sym (find-map p f xs)
found_seen p q f xs (Some r) same found = ap (option_map f) (found ∙ sym (find-alike (λ x. p (f x)) q xs same)) ∙ sym (find-map p f xs)

-- the value behind a name, by the first item that has the name
lookup-find : {A B : Type 0} (seen : A → List ℕ × B) (p : List ℕ → Bool) (xs : List A) → lookup p (map seen xs) ≡ option_map (λ x. (seen x).1) (find (λ x. p (seen x).0) xs)
lookup-find seen p [] = refl
lookup-find seen p (x ∷ xs) =
    (elim (p (seen x).0) as (λ b. cond b (Some (seen x).1) (lookup p (map seen xs)) ≡ option_map (λ y. (seen y).1) (cond b (Some x) (find (λ y. p (seen y).0) xs))) [
      | true ↦ refl
      | false ↦ lookup-find seen p xs
    ])

-- the same by a reference to that item, which is found by its name
pub value_seen : {A B : Type 0} (seen : A → List ℕ × B) (name : A → List ℕ) (p : List ℕ → Bool) (xs : List A) (r : Option (Bor A)) → ((x : A) → (seen x).0 ≡ name x)
    → option_copied r ≡ find (λ x. p (name x)) xs → option_map (λ x. (seen x.now).1) r ≡ lookup p (map seen xs)
value_seen seen name p xs None same found =
    ap (option_map (λ x. (seen x).1)) (found ∙ sym (find-alike (λ x. p (seen x).0) (λ x. p (name x)) xs (λ x. ap p (same x)))) ∙ sym (lookup-find seen p xs)
value_seen seen name p xs (Some r) same found =
    ap (option_map (λ x. (seen x).1)) (found ∙ sym (find-alike (λ x. p (seen x).0) (λ x. p (name x)) xs (λ x. ap p (same x)))) ∙ sym (lookup-find seen p xs)

-- one more truth value behind others
pub or_behind : (o before here : Bool) → (o || (before || here)) ≡ (before || (here || o))
or_behind true true here = refl
or_behind true false true = refl
or_behind true false false = refl
or_behind false true here = refl
or_behind false false true = refl
or_behind false false false = refl
