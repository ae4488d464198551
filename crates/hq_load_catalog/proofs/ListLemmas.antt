-- Lists: what a search that found nothing says, and items of two lists side by side.
use Rattle.std.proofs.Common.{◌≡◌, ◌∙◌, ◌&&◌, ◌||◌, ℕ, zero, suc, List, [], ◌∷◌, map, get_or, Bool, true, false, cond, not, Option, Some, None, option_map, slice_get, refl, sym, ap, subst}
use Rattle.std.specs.List.{AllByRecursion, AllZip, find, flat_map, list_any, position}
use Rattle.std.specs.Option.{option_or}
use Rattle.std.specs.Cmp.Derive.{both_true}
use Rattle.std.proofs.lemmas.Bool.{not_from_false}
use Rattle.std.proofs.lemmas.List.Folds.{find-append}
use Rattle.std.proofs.lemmas.List.Quantifiers.{position-Some}
use Rattle.std.proofs.lemmas.Option.{slice_get-get_or}
use Rattle.hq_base.specs.Lists.{all_differ}

-- two searches in a row found nothing
pub option_or-None : {A : Type 0} (a b : Option A) → option_or a b ≡ None → (a ≡ None) × (b ≡ None)
option_or-None None b none = (refl, none)
option_or-None (Some x) b none = cc

pub option_map-None : {A B : Type 0} (f : A → B) (o : Option A) → option_map f o ≡ None → o ≡ None
option_map-None f None none = refl
option_map-None f (Some x) none = cc

-- a test that gives nothing failed
pub cond-None : {A : Type 0} (b : Bool) (x : A) (o : Option A) → cond b (Some x) o ≡ None → (b ≡ false) × (o ≡ None)
cond-None true x o none = cc
cond-None false x o none = (refl, none)

-- no item passes
pub find-None : {A : Type 0} (p : A → Bool) (xs : List A) → find p xs ≡ None → AllByRecursion (λ x. p x ≡ false) xs
find-None p [] none = tt
find-None p (x ∷ xs) none =
    let (here, rest) = cond-None (p x) x (find p xs) none in
    (here, find-None p xs rest)

-- no item of any of the lists passes
pub find_in_each-None : {A B : Type 0} (p : B → Bool) (f : A → List B) (xs : List A) → find p (flat_map f xs) ≡ None → AllByRecursion (λ x. find p (f x) ≡ None) xs
find_in_each-None p f [] none = tt
find_in_each-None p f (x ∷ xs) none =
    let (here, rest) = option_or-None (find p (f x)) (find p (flat_map f xs)) (sym (find-append p (f x) (flat_map f xs)) ∙ none) in
    (here, find_in_each-None p f xs rest)

-- the item at the place that a search found
pub position-item : {A : Type 0} (p : A → Bool) (xs : List A) (k : ℕ) → position p xs ≡ Some k → (x : A) × (slice_get xs k ≡ Some x) × (p x ≡ true)
position-item p [] k found = cc
position-item p (x ∷ xs) k found =
    let (below, passes, before) = position-Some p (x ∷ xs) k x found in
    (get_or (x ∷ xs) k x, slice_get-get_or (x ∷ xs) k x below, passes)

-- what stands beside the item at a place
pub AllZip-item : {A B : Type 0} (R : A → B → Type 0) (xs : List A) (ys : List B) (k : ℕ) (x : A) → AllZip R xs ys → slice_get xs k ≡ Some x → (y : B) × (slice_get ys k ≡ Some y) × R x y
AllZip-item R [] ys k x beside at = cc
AllZip-item R (v ∷ vs) [] k x beside at = absurd beside
AllZip-item R (v ∷ vs) (w ∷ ws) zero x beside at =
    let same : v ≡ x = cc in
    (w, refl, subst (λ z. R z w) same beside.0)
AllZip-item R (v ∷ vs) (w ∷ ws) (suc k) x beside at = AllZip-item R vs ws k x beside.1 at

-- the items of lists that go along differ where those of the other do
pub list_any-map : {A B : Type 0} (p : B → Bool) (f : A → B) (xs : List A) → list_any p (map f xs) ≡ list_any (λ x. p (f x)) xs
list_any-map p f [] = refl
list_any-map p f (x ∷ xs) = ap (λ b. p (f x) || b) (list_any-map p f xs)

pub all_differ-map : {A B : Type 0} (same : B → B → Bool) (f : A → B) (xs : List A) → all_differ same (map f xs) ≡ all_differ (λ x y. same (f x) (f y)) xs
all_differ-map same f [] = refl
all_differ-map same f (x ∷ xs) =
    ap (λ b. not b && all_differ same (map f xs)) (list_any-map (same (f x)) f xs)
    ∙ ap (λ b. not (list_any (λ y. same (f x) (f y)) xs) && b) (all_differ-map same f xs)

-- neither of two tests passed
pub or-false : (a b : Bool) → (a || b) ≡ false → (a ≡ false) × (b ≡ false)
or-false true b neither = cc
or-false false b neither = (refl, neither)

-- no item passes
pub list_any-none : {A : Type 0} (p : A → Bool) (xs : List A) → AllByRecursion (λ x. p x ≡ false) xs → list_any p xs ≡ false
list_any-none p [] none = refl
list_any-none p (x ∷ xs) none = ap (λ b. b || list_any p xs) none.0 ∙ list_any-none p xs none.1

pub list_any-false : {A : Type 0} (p : A → Bool) (xs : List A) → list_any p xs ≡ false → AllByRecursion (λ x. p x ≡ false) xs
list_any-false p [] none = tt
list_any-false p (x ∷ xs) none =
    let (here, rest) = or-false (p x) (list_any p xs) none in
    (here, list_any-false p xs rest)

-- an item that is like none of a list, in front of it
pub all_differ-cons : {A : Type 0} (same : A → A → Bool) (x : A) (xs : List A) → AllByRecursion (λ y. same x y ≡ false) xs → all_differ same xs ≡ true → all_differ same (x ∷ xs) ≡ true
all_differ-cons same x xs apart differ =
    both_true (not_from_false (list_any (same x) xs) (list_any-none (same x) xs apart)) differ
