-- Two ways to split one list.
use Rattle.std.proofs.Common.{◌≡◌, ℕ, ◌-◌, ◌≤◌, ◌⊎◌, inl, inr, List, [], ◌∷◌, ◌++◌, length, drop, refl, sym, ap, arith}
use Rattle.std.proofs.lemmas.List.{length-append}

-- The splits are one, or the one front goes on behind the other.
abbrev pub Splits : {A : Type 0} → (a b c d : List A) → Type 0
Splits {A} a b c d =
    ((a ≡ c) × (b ≡ d)) ⊎ (((x : A) × (m : List A) × (c ≡ a ++ (x ∷ m)) × (b ≡ x ∷ (m ++ d))) ⊎ ((x : A) × (m : List A) × (a ≡ c ++ (x ∷ m)) × (d ≡ x ∷ (m ++ b))))

more : {A : Type 0} (y : A) (a b c d : List A) → Splits a b c d → Splits (y ∷ a) b (y ∷ c) d
more y a b c d (inl (e, f)) = inl (ap (λ us. y ∷ us) e, f)
more y a b c d (inr (inl (x, m, e, f))) = inr (inl (x, m, ap (λ us. y ∷ us) e, f))
more y a b c d (inr (inr (x, m, e, f))) = inr (inr (x, m, ap (λ us. y ∷ us) e, f))

pub splits : {A : Type 0} (a b c d : List A) → a ++ b ≡ c ++ d → Splits a b c d
splits [] b [] d e = inl (refl, e)
splits [] b (y ∷ c) d e = inr (inl (y, c, refl, e))
splits (x ∷ a) b [] d e = inr (inr (x, a, refl, sym e))
splits (x ∷ a) b (y ∷ c) d e = let head : x ≡ y = cc in let tail : a ++ b ≡ c ++ d = cc in rw head (more y a b c d (splits a b c d tail))

drop_front : {A : Type 0} (a b : List A) (n : ℕ) → n ≡ length a → drop n (a ++ b) ≡ b
drop_front [] b n e = rw e refl
drop_front (x ∷ a) b n e = rw e (drop_front a b (length a) refl)

-- what is left of a list with so many behind the front
pub left_is : {A : Type 0} (ts a b : List A) → ts ≡ a ++ b → drop (length ts - length b) ts ≡ b
left_is ts a b is = let n : length (a ++ b) - length b ≡ length a = omega (arith, length-append a b) in rw is (drop_front a b (length (a ++ b) - length b) n)

pub left_fits : {A : Type 0} (ts a b : List A) → ts ≡ a ++ b → length b ≤ length ts
left_fits ts a b is = rw is (omega (arith, length-append a b))
