-- Elements that stand in lists, and tests of them.
use Rattle.std.proofs.Common.{◌≡◌, ℕ, zero, suc, ◌<◌, List, [], ◌∷◌, map, length, Bool, true, nat_eq, ◌⊎◌, inl, inr, sym, refl, ap, ◌∙◌, subst, arith}
use Rattle.std.specs.Prelude.{slice_index_or}
use Rattle.std.specs.List.{Contains, list_any, flat_map}
use Rattle.std.proofs.lemmas.Bool.{eqb-true, eq-eqb, or_cases, or_left, or_right}
use Rattle.std.proofs.lemmas.List.Elements.{Contains-append_left, Contains-append_right}

-- the test of two numbers
pub nat_same : (a b : ℕ) → nat_eq a b ≡ true → a ≡ b
nat_same a b h = eqb-true a b h

pub nat_itself : (a : ℕ) → nat_eq a a ≡ true
nat_itself a = eq-eqb a a refl

-- nothing stands in an empty list
pub no_member : {X : Type 0} (x : X) → Contains [] x → ⊥
no_member x h = omega (arith, h.1)

-- an element is the first one, or stands behind it
at_index : {X : Type 0} (y : X) (ys : List X) (x : X) (k : ℕ) → k < length (y ∷ ys) → slice_index_or (y ∷ ys) k x ≡ x → (y ≡ x) ⊎ Contains ys x
at_index y ys x zero h e = inl e
at_index y ys x (suc k) h e = inr (k, omega arith, e)

pub contains_cases : {X : Type 0} (y : X) (ys : List X) (x : X) → Contains (y ∷ ys) x → (y ≡ x) ⊎ Contains ys x
contains_cases y ys x h = at_index y ys x h.0 h.1 h.2

pub contains_first : {X : Type 0} (y : X) (ys : List X) → Contains (y ∷ ys) y
contains_first y ys = (0, omega arith, refl)

pub contains_later : {X : Type 0} (y : X) (ys : List X) (x : X) → Contains ys x → Contains (y ∷ ys) x
contains_later y ys x h = Contains-append_right (y ∷ []) ys x h

-- a test that some element passes
pub any_found : {X : Type 0} (p : X → Bool) (xs : List X) → list_any p xs ≡ true → (x : X) × Contains xs x × (p x ≡ true)
any_found p [] h = absurd (cc)
any_found p (x ∷ xs) h =
    (elim (or_cases (p x) (list_any p xs) h) [
      | inl e ↦ (x, contains_first x xs, e)
      | inr e ↦ let r = any_found p xs e in (r.0, contains_later x xs r.0 r.1, r.2)
    ])

pub any_passes : {X : Type 0} (p : X → Bool) (xs : List X) (x : X) → Contains xs x → p x ≡ true → list_any p xs ≡ true
any_passes p [] x c h = absurd (no_member x c)
any_passes p (y ∷ ys) x c h =
    (elim (contains_cases y ys x c) [
      | inl same ↦ or_left (p y) (list_any p ys) (ap p same ∙ h)
      | inr behind ↦ or_right (p y) (list_any p ys) (any_passes p ys x behind h)
    ])

pub contains_map : {X Y : Type 0} (f : X → Y) (xs : List X) (x : X) → Contains xs x → Contains (map f xs) (f x)
contains_map f [] x c = absurd (no_member x c)
contains_map f (y ∷ ys) x c =
    (elim (contains_cases y ys x c) [
      | inl same ↦ subst (λ z. Contains (map f (y ∷ ys)) (f z)) same (contains_first (f y) (map f ys))
      | inr behind ↦ contains_later (f y) (map f ys) (f x) (contains_map f ys x behind)
    ])

pub contains_flat_map : {X Y : Type 0} (f : X → List Y) (xs : List X) (x : X) (z : Y) → Contains xs x → Contains (f x) z → Contains (flat_map f xs) z
contains_flat_map f [] x z c h = absurd (no_member x c)
contains_flat_map f (y ∷ ys) x z c h =
    (elim (contains_cases y ys x c) [
      | inl same ↦ Contains-append_left (f y) (flat_map f ys) z (subst (λ w. Contains (f w) z) (sym same) h)
      | inr behind ↦ Contains-append_right (f y) (flat_map f ys) z (contains_flat_map f ys x z behind h)
    ])
