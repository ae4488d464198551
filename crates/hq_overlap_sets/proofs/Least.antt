-- The least of places that a list gives.
use Rattle.std.proofs.Common.{◌≡◌, ℕ, ◌≤◌, ◌<◌, List, [], ◌∷◌, Bool, true, false, min, ◌⊎◌, inl, inr, Option, Some, None, sym, refl, ap, subst, arith}
use Rattle.std.specs.List.{Contains}
use Rattle.std.proofs.lemmas.Bool.{cases_lt}
use Rattle.hq_gql_nodes.specs.Least.{earlier, at_if, least_of}
use Rattle.hq_overlap_sets.specs.Pairs.{AtMost}
use Rattle.hq_overlap_sets.proofs.Tests.{no_member, contains_cases, contains_first, contains_later}

pub same_some : {X : Type 0} (x y : X) → ◌≡◌ {A = Option X} (Some x) (Some y) → x ≡ y
same_some x y e = cc

pub low_left : (o q : Option ℕ) (n : ℕ) → AtMost o n → AtMost (earlier o q) n
low_left None q n h = absurd h
low_left (Some a) None n h = h
low_left (Some a) (Some b) n h = let k : a ≤ n = h in omega arith

pub low_right : (o q : Option ℕ) (n : ℕ) → AtMost q n → AtMost (earlier o q) n
low_right None q n h = h
low_right (Some a) None n h = absurd h
low_right (Some a) (Some b) n h = let k : b ≤ n = h in omega arith

-- the lesser of two places is one of them
by_order : (a b p : ℕ) → min a b ≡ p → ((a < b) ⊎ (b ≤ a)) → (◌≡◌ {A = Option ℕ} (Some a) (Some p)) ⊎ (◌≡◌ {A = Option ℕ} (Some b) (Some p))
by_order a b p e (inl h) = inl (let k : a ≡ p = omega arith in ap (λ n. Some n) k)
by_order a b p e (inr h) = inr (let k : b ≡ p = omega arith in ap (λ n. Some n) k)

either : (a b : ℕ) → (a < b) ⊎ (b ≤ a)
either a b = cases_lt a b

pub earlier_cases : (o q : Option ℕ) (p : ℕ) → earlier o q ≡ Some p → (o ≡ Some p) ⊎ (q ≡ Some p)
earlier_cases None q p h = inr h
earlier_cases (Some a) None p h = inl h
earlier_cases (Some a) (Some b) p h = by_order a b p (same_some (min a b) p h) (either a b)

-- a place at which a test holds
pub at_if_true : (b : Bool) (n p : ℕ) → at_if b n ≡ Some p → (b ≡ true) × (n ≡ p)
at_if_true true n p h = (refl, same_some n p h)
at_if_true false n p h = absurd (cc)

pub at_if_low : (b : Bool) (n : ℕ) → b ≡ true → AtMost (at_if b n) n
at_if_low true n h = let k : n ≤ n = omega arith in k
at_if_low false n h = absurd (cc)

pub least_low : {X : Type 0} (f : X → Option ℕ) (xs : List X) (x : X) (n : ℕ) → Contains xs x → AtMost (f x) n → AtMost (least_of f xs) n
least_low f [] x n c h = absurd (no_member x c)
least_low f (y ∷ ys) x n c h =
    (elim (contains_cases y ys x c) [
      | inl same ↦ low_left (f y) (least_of f ys) n (subst (λ z. AtMost (f z) n) (sym same) h)
      | inr behind ↦ low_right (f y) (least_of f ys) n (least_low f ys x n behind h)
    ])

pub least_found : {X : Type 0} (f : X → Option ℕ) (xs : List X) (p : ℕ) → least_of f xs ≡ Some p → (x : X) × Contains xs x × (f x ≡ Some p)
least_found f [] p h = absurd (cc)
least_found f (y ∷ ys) p h =
    (elim (earlier_cases (f y) (least_of f ys) p h) [
      | inl e ↦ (y, contains_first y ys, e)
      | inr e ↦ let r = least_found f ys p e in (r.0, contains_later y ys r.0 r.1, r.2)
    ])
