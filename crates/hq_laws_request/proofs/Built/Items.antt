-- Facts of each item of joined, mapped, filtered and looked-up lists.
use Rattle.std.proofs.Common.{◌≡◌, ◌∙◌, refl, sym, ap, subst, ℕ, zero, suc, List, [], ◌∷◌, ◌++◌, map, find, flat_map, filter_map, Bool, true, false, Option, Some, None, slice_get, IfSome}
use Rattle.std.specs.List.{list_all, cons_option}
use Rattle.std.proofs.lemmas.Bool.{and_parts}
use Rattle.hq_base.specs.Lists.{Each}

pub each_append : {A : Type 0} (P : A → Type 0) (xs ys : List A) → Each P xs → Each P ys → Each P (xs ++ ys)
each_append P [] ys h g = g
each_append P (x ∷ xs) ys h g = (h.0, each_append P xs ys h.1 g)

pub each_map : {A B : Type 0} (P : B → Type 0) (f : A → B) → ((x : A) → P (f x)) → (xs : List A) → Each P (map f xs)
each_map P f step [] = tt
each_map P f step (x ∷ xs) = (step x, each_map P f step xs)

pub each_flat_map : {A B : Type 0} (P : B → Type 0) (Q : A → Type 0) (f : A → List B) → ((x : A) → Q x → Each P (f x)) → (xs : List A) → Each Q xs → Each P (flat_map f xs)
each_flat_map P Q f step [] h = tt
each_flat_map P Q f step (x ∷ xs) h = each_append P (f x) (flat_map f xs) (step x h.0) (each_flat_map P Q f step xs h.1)

each_cons_option : {A : Type 0} (P : A → Type 0) (o : Option A) (xs : List A) → IfSome o P → Each P xs → Each P (cons_option o xs)
each_cons_option P None xs h g = g
each_cons_option P (Some x) xs h g = (h, g)

pub each_filter_map : {A B : Type 0} (P : B → Type 0) (Q : A → Type 0) (f : A → Option B) → ((x : A) → Q x → IfSome (f x) P) → (xs : List A) → Each Q xs → Each P (filter_map f xs)
each_filter_map P Q f step [] h = tt
each_filter_map P Q f step (x ∷ xs) h = each_cons_option P (f x) (filter_map f xs) (step x h.0) (each_filter_map P Q f step xs h.1)

-- a fact of all items, by a test
pub each_of : {A : Type 0} (p : A → Bool) (xs : List A) → list_all p xs ≡ true → Each (λ x. p x ≡ true) xs
each_of p [] h = tt
each_of p (x ∷ xs) h = let parts = and_parts (p x) (list_all p xs) h in (parts.0, each_of p xs parts.1)

-- an item that is found is one of them, and passes the test
pub found_each : {A : Type 0} (P : A → Type 0) (p : A → Bool) (xs : List A) (x : A) → find p xs ≡ Some x → Each P xs → P x × (p x ≡ true)
found_each P p [] x e h = cc
found_each {A = A} P p (y ∷ ys) x e h = by (p y) refl (λ later. found_each P p ys x later h.1)
  where
    by : (b : Bool) → p y ≡ b → (find p ys ≡ Some x → P x × (p x ≡ true)) → P x × (p x ≡ true)
    by true q rest =
        let here : Some y ≡ Some x = rw q at e in
        let same : y ≡ x = cc in
        (subst P same h.0, ap p (sym same) ∙ q)
    by false q rest = rest (rw q at e)

-- an item at a place is one of them
pub each_at : {A : Type 0} (P : A → Type 0) (xs : List A) (i : ℕ) (x : A) → slice_get xs i ≡ Some x → Each P xs → P x
each_at P [] i x e h = cc
each_at P (y ∷ ys) zero x e h = let same : y ≡ x = cc in subst P same h.0
each_at P (y ∷ ys) (suc i) x e h = each_at P ys i x e h.1
