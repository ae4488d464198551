-- Numbers that there may be, counted from further back.
use Rattle.std.proofs.Common.{◌≡◌, ℕ, ◌+◌, Option, Some, None, refl, ap, arith}
use Rattle.std.specs.Option.{option_map}

-- two counts one after the other are one
pub option_map-add : (k m j : ℕ) (found : Option ℕ) → k + m ≡ j → option_map (λ n. k + n) (option_map (λ n. m + n) found) ≡ option_map (λ n. j + n) found
option_map-add k m j None e = refl
option_map-add k m j (Some n) e = ap Some (omega arith)

-- a count of nothing changes nothing
pub option_map-zero : (found : Option ℕ) → found ≡ option_map (λ n. 0 + n) found
option_map-zero None = refl
option_map-zero (Some n) = ap Some (omega arith)
