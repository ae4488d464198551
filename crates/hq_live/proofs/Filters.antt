-- Filters behind one another.
use Rattle.std.proofs.Common.{◌≡◌, ◌∷◌, [], cond, List, Bool, true, false, filter, refl, sym, ap, ◌∙◌}

-- a filter of a list with one more element or not
pub filter_cons : {A : Type 0} (p : A → Bool) (b : Bool) (x : A) (xs : List A) → filter p (cond b (x ∷ xs) xs) ≡ cond b (cond (p x) (x ∷ filter p xs) (filter p xs)) (filter p xs)
filter_cons p true x xs = refl
filter_cons p false x xs = refl

-- two choices in either order
cond_swap : {A : Type 0} (b c : Bool) (x : A) (xs : List A) → cond b (cond c (x ∷ xs) xs) xs ≡ cond c (cond b (x ∷ xs) xs) xs
cond_swap true true x xs = refl
cond_swap true false x xs = refl
cond_swap false true x xs = refl
cond_swap false false x xs = refl

-- two filters in either order
pub filter_swap : {A : Type 0} (p q : A → Bool) (xs : List A) → filter p (filter q xs) ≡ filter q (filter p xs)
filter_swap p q [] = refl
filter_swap p q (x ∷ xs) =
    filter_cons p (q x) x (filter q xs)
    ∙ (ap (λ l. cond (q x) (cond (p x) (x ∷ l) l) l) (filter_swap p q xs)
    ∙ (cond_swap (q x) (p x) x (filter q (filter p xs)) ∙ sym (filter_cons q (p x) x (filter p xs))))

-- a choice that holds wherever another does
skip_cond : {A : Type 0} (b c : Bool) (x : A) (xs : List A) → (c ≡ true → b ≡ true) → cond b (cond c (x ∷ xs) xs) xs ≡ cond c (x ∷ xs) xs
skip_cond true c x xs h = refl
skip_cond false true x xs h = cc (h refl)
skip_cond false false x xs h = refl

-- a filter behind one that keeps all of these
pub filter_skip : {A : Type 0} (q p : A → Bool) (xs : List A) → ((x : A) → q x ≡ true → p x ≡ true) → filter q (filter p xs) ≡ filter q xs
filter_skip q p [] h = refl
filter_skip q p (x ∷ xs) h =
    filter_cons q (p x) x (filter p xs)
    ∙ (ap (λ l. cond (p x) (cond (q x) (x ∷ l) l) l) (filter_skip q p xs h) ∙ skip_cond (p x) (q x) x (filter q xs) (h x))
