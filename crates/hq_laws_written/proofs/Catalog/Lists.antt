-- Lists: searches, and items that are read one after another.
use Rattle.std.proofs.Common.{◌≡◌, ◌∙◌, ℕ, zero, suc, ◌<◌, ◌||◌, List, [], ◌∷◌, ◌++◌, length, map, Bool, true, false, not, Some, None, slice_get, find, position, flat_map, refl, sym, ap, subst, arith, lt-ltb}
use Rattle.std.specs.List.{list_all, list_any, position_or_len}
use Rattle.std.proofs.lemmas.Bool.{and_parts, or_parts, true≢false}
use Rattle.std.proofs.lemmas.List.Folds.{find-append}
use Rattle.hq_base.specs.Lists.{Each, all_differ}

pub not_true : (b : Bool) → not b ≡ true → b ≡ false
not_true true h = cc
not_true false h = refl

-- ---- facts of each item

pub each_true : {A : Type 0} (p : A → Bool) (xs : List A) → list_all p xs ≡ true → Each (λ x. p x ≡ true) xs
each_true p [] h = tt
each_true p (x ∷ xs) h = let parts = and_parts _ _ h in (parts.0, each_true p xs parts.1)

-- a fact of the item at each place
pub each_at : {A : Type 0} (P : A → Type 0) (xs : List A) → ((k : ℕ) (x : A) → slice_get xs k ≡ Some x → P x) → Each P xs
each_at P [] h = tt
each_at P (x ∷ xs) h = (h 0 x refl, each_at P xs (λ k y e. h (suc k) y e))

pub at_each : {A : Type 0} (P : A → Type 0) (xs : List A) → Each P xs → (k : ℕ) (x : A) → slice_get xs k ≡ Some x → P x
at_each P [] h k x e = absurd cc
at_each P (y ∷ ys) h zero x e = let same : y ≡ x = cc in subst P same h.0
at_each P (y ∷ ys) h (suc k) x e = at_each P ys h.1 k x e

pub map_each : {A : Type 0} (f : A → A) (xs : List A) → Each (λ x. f x ≡ x) xs → map f xs ≡ xs
map_each f [] h = refl
map_each f (x ∷ xs) h = rw (h.0, map_each f xs h.1) refl

pub map_alike : {A B : Type 0} (f g : A → B) (xs : List A) → Each (λ x. f x ≡ g x) xs → map f xs ≡ map g xs
map_alike f g [] h = refl
map_alike f g (x ∷ xs) h = rw (h.0, map_alike f g xs h.1) refl

pub slice_get_map : {A B : Type 0} (f : A → B) (xs : List A) (k : ℕ) (x : A) → slice_get xs k ≡ Some x → slice_get (map f xs) k ≡ Some (f x)
slice_get_map f [] k x e = absurd cc
slice_get_map f (y ∷ ys) zero x e = let same : y ≡ x = cc in ap (λ z. Some (f z)) same
slice_get_map f (y ∷ ys) (suc k) x e = slice_get_map f ys k x e

-- ---- searches that find nothing

pub find_none : {A B : Type 0} (p : B → Bool) (f : A → B) (xs : List A) → Each (λ x. p (f x) ≡ false) xs → find p (map f xs) ≡ None
find_none p f [] h = refl
find_none p f (x ∷ xs) h = rw h.0 (find_none p f xs h.1)

pub find_none_flat : {A B : Type 0} (p : B → Bool) (f : A → List B) (xs : List A) → Each (λ x. find p (f x) ≡ None) xs → find p (flat_map f xs) ≡ None
find_none_flat p f [] h = refl
find_none_flat p f (x ∷ xs) h = find-append p (f x) (flat_map f xs) ∙ rw h.0 (find_none_flat p f xs h.1)

-- ---- items that differ

-- an item that stands somewhere passes no test that none passes
pub none_there : {A : Type 0} (p : A → Bool) (xs : List A) (k : ℕ) (x : A) → list_any p xs ≡ false → slice_get xs k ≡ Some x → p x ≡ false
none_there p [] k x h e = absurd cc
none_there p (y ∷ ys) zero x h e = let same : y ≡ x = cc in ap p (sym same) ∙ (or_parts (p y) _ h).0
none_there p (y ∷ ys) (suc k) x h e = none_there p ys k x (or_parts (p y) _ h).1 e

pub none_here : {A : Type 0} (p : A → Bool) (xs ys : List A) (y : A) → list_any p (xs ++ y ∷ ys) ≡ false → p y ≡ false
none_here p [] ys y h = (or_parts (p y) _ h).0
none_here p (x ∷ xs) ys y h = none_here p xs ys y (or_parts (p x) _ h).1

-- of items that differ, none before this one is like it
pub none_before : {A : Type 0} (same : A → A → Bool) (xs ys : List A) (y : A) → all_differ same (xs ++ y ∷ ys) ≡ true → list_any (λ x. same x y) xs ≡ false
none_before same [] ys y h = refl
none_before same (x ∷ xs) ys y h =
    let p = and_parts _ _ h in
    rw (none_here (same x) xs ys y (not_true _ p.0)) (none_before same xs ys y p.1)

any_weaken : {A : Type 0} (p q : A → Bool) → ((x : A) → p x ≡ true → q x ≡ true) → (xs : List A) → list_any q xs ≡ false → list_any p xs ≡ false
any_weaken p q step [] h = refl
any_weaken p q step (x ∷ xs) h =
    let parts = or_parts (q x) (list_any q xs) h in
    let go : (b : Bool) → p x ≡ b → (b || list_any p xs) ≡ false = elim [ true ↦ λ e. absurd (true≢false (sym (step x e) ∙ parts.0)) | false ↦ λ e. any_weaken p q step xs parts.1 ] in
    go (p x) refl

-- items that differ by a wider likeness differ
pub differ_weaken : {A : Type 0} (same wide : A → A → Bool) → ((x y : A) → same x y ≡ true → wide x y ≡ true) → (xs : List A) → all_differ wide xs ≡ true → all_differ same xs ≡ true
differ_weaken same wide step [] h = refl
differ_weaken same wide step (x ∷ xs) h =
    let p = and_parts _ _ h in
    rw (any_weaken (same x) (wide x) (step x) xs (not_true _ p.0)) (differ_weaken same wide step xs p.1)

pub any_map : {A B : Type 0} (p : B → Bool) (f : A → B) (xs : List A) → list_any p (map f xs) ≡ list_any (λ x. p (f x)) xs
any_map p f [] = refl
any_map p f (x ∷ xs) = ap (λ b. p (f x) || b) (any_map p f xs)

pub differ_map : {A B : Type 0} (same : B → B → Bool) (f : A → B) (xs : List A) → all_differ same (map f xs) ≡ all_differ (λ x y. same (f x) (f y)) xs
differ_map same f [] = refl
differ_map same f (x ∷ xs) = rw (any_map (same (f x)) f xs, differ_map same f xs) refl

-- ---- places

-- the first item that is like an item is that one, where items differ
first_place : {A : Type 0} (same : A → A → Bool) (xs : List A) (k : ℕ) (x : A) → all_differ same xs ≡ true → same x x ≡ true → slice_get xs k ≡ Some x
    → (position_or_len (λ y. same y x) xs ≡ k) × (k < length xs)
first_place same [] k x h like e = absurd cc
first_place same (y ∷ ys) zero x h like e = let is : y ≡ x = cc in (rw (is, like) refl, omega arith)
first_place same (y ∷ ys) (suc k) x h like e =
    let p = and_parts _ _ h in
    let other = none_there (same y) ys k x (not_true _ p.0) e in
    let later = first_place same ys k x p.1 like e in
    (rw other (omega (arith, later.0)), omega (arith, later.1))

pub position_of : {A : Type 0} (same : A → A → Bool) (xs : List A) (k : ℕ) (x : A) → all_differ same xs ≡ true → same x x ≡ true → slice_get xs k ≡ Some x → position (λ y. same y x) xs ≡ Some k
position_of same xs k x h like e = let first = first_place same xs k x h like e in rw (first.0, lt-ltb k (length xs) first.1) refl
