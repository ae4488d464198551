-- Digits of numbers.
use Rattle.std.proofs.Common.{◌≡◌, ℕ, ◌<◌, ◌^◌, false, arith}
use Rattle.std.specs.Fmt.{decimal}
use Rattle.hq_base.proofs.Texts.{has_zero-decimal}
use Rattle.hq_base.specs.Text.{has_zero}

-- a number of 32 bits has no zero byte
pub digits_no_zero : (n : ℕ) → n < 2 ^ 32 → has_zero (decimal n) ≡ false
digits_no_zero n small = has_zero-decimal n (omega (arith, small))
