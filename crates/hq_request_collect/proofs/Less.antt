-- How many may still come behind some.
use Rattle.std.proofs.Common.{◌≡◌, ◌∙◌, refl, sym, ap, ℕ, zero, suc, ◌+◌, ◌-◌, ◌≤◌, ◌<◌, Option, Some, None, inl, inr, arith}
use Rattle.std.specs.Prelude.{nat_le, is_some, option_and_then}
use Rattle.std.proofs.lemmas.Bool.Decides.{leb_tells}
use Rattle.std.specs.Option.{SomeIff}
use Rattle.hq_request_collect.specs.Size.{less}

-- behind some and then others
pub less_both : (a b left : ℕ) → less (a + b) left ≡ option_and_then (less b) (less a left)
less_both zero b left = let e : 0 + b ≡ b = omega arith in ap (λ n. less n left) e
less_both (suc a) b zero = let e : suc a + b ≡ suc (a + b) = omega arith in ap (λ n. less n zero) e
less_both (suc a) b (suc left) = let e : suc a + b ≡ suc (a + b) = omega arith in ap (λ n. less n (suc left)) e ∙ less_both a b left

pub less_then : (a b left k : ℕ) → less a left ≡ Some k → less (a + b) left ≡ less b k
less_then a b left k e = less_both a b left ∙ ap (option_and_then (less b)) e

pub less_stops : (a b left : ℕ) → less a left ≡ None → less (a + b) left ≡ None
less_stops a b left e = less_both a b left ∙ ap (option_and_then (less b)) e

pub less_fits : (n left : ℕ) → n ≤ left → less n left ≡ Some (left - n)
less_fits zero left h = ap Some (omega arith)
less_fits (suc n) zero h = absurd (omega (arith, h))
less_fits (suc n) (suc left) h = less_fits n left (omega (arith, h)) ∙ ap Some (omega arith)

pub less_over : (n left : ℕ) → left < n → less n left ≡ None
less_over zero left h = absurd (omega (arith, h))
less_over (suc n) zero h = refl
less_over (suc n) (suc left) h = less_over n left (omega (arith, h))

-- what a subtraction that tells whether it can be done gives
pub less_is : (o : Option ℕ) (n left : ℕ) → SomeIff o (n ≤ left) (left - n) → o ≡ less n left
less_is None n left h = sym (less_over n left (omega (arith, h)))
less_is (Some k) n left h = ap Some h.1 ∙ sym (less_fits n left h.0)

-- some are left exactly where they are at most so many
pub less_enough : (n left : ℕ) → is_some (less n left) ≡ nat_le n left
less_enough n left = elim (leb_tells n left) [
  | inl u ↦ let v : n ≤ left = u.1 in ap is_some (less_fits n left v) ∙ sym u.0
  | inr u ↦ ap is_some (less_over n left (omega (arith, u.1))) ∙ sym u.0
]
