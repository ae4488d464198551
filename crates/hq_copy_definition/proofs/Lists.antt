-- Lists: items at their places, what holds of each item, and what is found.
use Rattle.std.proofs.Common.{◌≡◌, ℕ, zero, suc, ◌+◌, ◌<◌, List, [], ◌∷◌, ◌++◌, map, length, Bool, true, false, cond, ◌||◌, ◌==◌, Some, refl, ap, ◌∙◌, subst, arith, slice_get}
use Rattle.std.proofs.lemmas.Bool.{and_parts, and_from, or_parts, or_from, or_left, or_right, eq-eqb, false≢true}
use Rattle.std.specs.List.{find, list_all, list_any}
use Rattle.std.specs.Prelude.{flat_map, option_map}
use Rattle.hq_base.specs.Lists.{Each, Zip}
use Rattle.hq_base.proofs.Lists.{each_weaken}

-- ---- items at their places

module _ {A B : Type 0} where
  pub got_map : (f : A → B) (xs : List A) (i : ℕ) → slice_get (map f xs) i ≡ option_map f (slice_get xs i)
  got_map f [] i = refl
  got_map f (x ∷ xs) zero = refl
  got_map f (x ∷ xs) (suc i) = got_map f xs i

  -- what holds of the images of items
  pub each_map : (P : B → Type 0) (f : A → B) (xs : List A) → Each (λ x. P (f x)) xs → Each P (map f xs)
  each_map P f [] h = tt
  each_map P f (x ∷ xs) h = (h.0, each_map P f xs h.1)

pub each_append : {A : Type 0} (P : A → Type 0) (xs ys : List A) → Each P xs → Each P ys → Each P (xs ++ ys)
each_append P [] ys h g = g
each_append P (x ∷ xs) ys h g = (h.0, each_append P xs ys h.1 g)

-- what is found passes
pub found_passes : {A : Type 0} (p : A → Bool) (xs : List A) (x : A) → find p xs ≡ Some x → p x ≡ true
found_passes p [] x e = cc
found_passes p (y ∷ ys) x e =
    let go : (b : Bool) → p y ≡ b → cond b (Some y) (find p ys) ≡ Some x → p x ≡ true =
    elim [ true ↦ λ h g. let same : y ≡ x = cc in subst (λ z. p z ≡ true) same h | false ↦ λ h g. found_passes p ys x g ] in
    go (p y) refl e

-- what holds of each item holds at a place
pub each_at : {A : Type 0} (P : A → Type 0) (xs : List A) (i : ℕ) (x : A) → Each P xs → slice_get xs i ≡ Some x → P x
each_at P [] i x h e = cc
each_at P (y ∷ ys) zero x h e = let same : y ≡ x = cc in subst P same h.0
each_at P (y ∷ ys) (suc i) x h e = each_at P ys i x h.1 e

-- the items of joined lists
pub got_front : {A : Type 0} (xs ys : List A) (i : ℕ) (x : A) → slice_get xs i ≡ Some x → slice_get (xs ++ ys) i ≡ Some x
got_front [] ys i x e = cc
got_front (z ∷ xs) ys zero x e = e
got_front (z ∷ xs) ys (suc i) x e = got_front xs ys i x e

pub got_back : {A : Type 0} (xs ys : List A) (j : ℕ) → slice_get (xs ++ ys) (length xs + j) ≡ slice_get ys j
got_back [] ys j = let zeroth : 0 + j ≡ j = omega arith in ap (slice_get ys) zeroth
got_back (x ∷ xs) ys j = let next : suc (length xs) + j ≡ suc (length xs + j) = omega arith in ap (slice_get (x ∷ (xs ++ ys))) next ∙ got_back xs ys j

pub map_length : {A B : Type 0} (f : A → B) (xs : List A) → length (map f xs) ≡ length xs
map_length f [] = refl
map_length f (x ∷ xs) = ap suc (map_length f xs)

-- where some item passes, one is found
pub found_there : {A : Type 0} (p : A → Bool) (xs : List A) → list_any p xs ≡ true → (x : A) × (find p xs ≡ Some x)
found_there p [] h = absurd (false≢true h)
found_there p (y ∷ ys) h =
    let go : (b : Bool) → (b || list_any p ys) ≡ true → (x : _) × (cond b (Some y) (find p ys) ≡ Some x) =
    elim [ true ↦ λ g. (y, refl) | false ↦ λ g. found_there p ys g ] in
    go (p y) h

pub got_within : {A : Type 0} (xs : List A) (i : ℕ) (x : A) → slice_get xs i ≡ Some x → i < length xs
got_within [] i x h = cc
got_within (y ∷ ys) zero x h = omega arith
got_within (y ∷ ys) (suc i) x h = omega (arith, got_within ys i x h)

-- what holds of each item holds of one that is found
pub found_each : {A : Type 0} (P : A → Type 0) (t : A → Bool) (xs : List A) (x : A) → Each P xs → find t xs ≡ Some x → P x
found_each P t [] x h e = cc
found_each P t (y ∷ ys) x h e =
    let go : (b : Bool) → cond b (Some y) (find t ys) ≡ Some x → P x = elim [ true ↦ λ g. let same : y ≡ x = cc in subst P same h.0 | false ↦ λ g. found_each P t ys x h.1 g ] in
    go (t y) e

-- each number is among those of its list
pub each_member : (ns : List ℕ) → Each (λ n. list_any (λ q. q == n) ns ≡ true) ns
each_member [] = tt
each_member (n ∷ ns) = (
  or_left (n == n) (list_any (λ q. q == n) ns) (eq-eqb n n refl),
  each_weaken (λ j. list_any (λ q. q == j) ns ≡ true) (λ j. list_any (λ q. q == j) (n ∷ ns) ≡ true)
      (λ j a. or_right (n == j) (list_any (λ q. q == j) ns) a) ns (each_member ns),
)

-- ---- tests of all items

pub each_none : {A : Type 0} (p : A → Bool) (xs : List A) → list_any p xs ≡ false → Each (λ x. p x ≡ false) xs
each_none p [] h = tt
each_none p (x ∷ xs) h = let both = or_parts (p x) (list_any p xs) h in (both.0, each_none p xs both.1)

pub none_each : {A : Type 0} (p : A → Bool) (xs : List A) → Each (λ x. p x ≡ false) xs → list_any p xs ≡ false
none_each p [] h = refl
none_each p (x ∷ xs) h = or_from (p x) (list_any p xs) h.0 (none_each p xs h.1)

pub each_of : {A : Type 0} (p : A → Bool) (xs : List A) → list_all p xs ≡ true → Each (λ x. p x ≡ true) xs
each_of p [] h = tt
each_of p (x ∷ xs) h = let parts = and_parts (p x) (list_all p xs) h in (parts.0, each_of p xs parts.1)

pub all_each : {A : Type 0} (p : A → Bool) (xs : List A) → Each (λ x. p x ≡ true) xs → list_all p xs ≡ true
all_each p [] h = refl
all_each p (x ∷ xs) h = and_from (p x) (list_all p xs) h.0 (all_each p xs h.1)

-- two facts of each item, and a third that follows
pub each_both : {A : Type 0} (P Q R : A → Type 0) → ((x : A) → P x → Q x → R x) → (xs : List A) → Each P xs → Each Q xs → Each R xs
each_both P Q R f [] p q = tt
each_both P Q R f (x ∷ xs) p q = (f x p.0 q.0, each_both P Q R f xs p.1 q.1)

-- what follows for a list that is related item by item
pub each_along : {A B : Type 0} (Q : A → B → Type 0) (P : A → Type 0) (N : B → Type 0) → ((x : A) (y : B) → Q x y → P x → N y) → (xs : List A) (ys : List B) → Zip Q xs ys → Each P xs → Each N ys
each_along Q P N on [] [] z h = tt
each_along Q P N on [] (y ∷ ys) z h = absurd z
each_along Q P N on (x ∷ xs) [] z h = absurd z
each_along Q P N on (x ∷ xs) (y ∷ ys) z h = (on x y z.0 h.0, each_along Q P N on xs ys z.1 h.1)

-- what holds of each item of the lists that are joined
pub each_made : {A B : Type 0} (P : B → Type 0) (f : A → List B) (xs : List A) → Each (λ x. Each P (f x)) xs → Each P (flat_map f xs)
each_made P f [] h = tt
each_made P f (x ∷ xs) h = each_append P (f x) (flat_map f xs) h.0 (each_made P f xs h.1)
