-- Numbers in a row.
use Rattle.std.proofs.Common.{◌≡◌, ℕ, zero, suc, ◌+◌, ◌<◌, [], ◌∷◌, ◌++◌, length, get_or, refl, ap, ◌∙◌, arith}
use Rattle.hq_load_index.specs.Indexes.{counted}

counted_suc : (from n : ℕ) → counted from (suc n) ≡ counted from n ++ (from + n) ∷ []
counted_suc from zero = let e : from + 0 ≡ from = omega arith in rw e refl
counted_suc from (suc n) = let e : suc from + n ≡ from + suc n = omega arith in ap (λ l. from ∷ l) (counted_suc (suc from) n ∙ ap (λ k. counted (suc from) n ++ k ∷ []) e)

-- one number more
pub counted_more : (n : ℕ) → counted 0 (n + 1) ≡ counted 0 n ++ n ∷ []
counted_more n = let e : n + 1 ≡ suc n = omega arith in let f : 0 + n ≡ n = omega arith in rw e (counted_suc 0 n ∙ ap (λ k. counted 0 n ++ k ∷ []) f)

pub length-counted : (from n : ℕ) → length (counted from n) ≡ n
length-counted from zero = refl
length-counted from (suc n) = ap suc (length-counted (suc from) n)

-- the number at a place
pub counted_at : (from n i d : ℕ) → i < n → get_or (counted from n) i d ≡ from + i
counted_at from zero i d lt = absurd (omega arith)
counted_at from (suc n) zero d lt = let e : from + 0 ≡ from = omega arith in rw e refl
counted_at from (suc n) (suc i) d lt = let e : suc from + i ≡ from + suc i = omega arith in counted_at (suc from) n i d (omega arith) ∙ e
