-- Texts without a zero byte.
use Rattle.std.proofs.Common.{◌≡◌, ◌∙◌, ℕ, ◌+◌, ◌%◌, ◌<◌, ◌^◌, List, [], ◌∷◌, ◌++◌, false, nat_eq, ◌||◌, arith, ap}
use Rattle.std.proofs.lemmas.Bool.Decides.{nat_tests}
use Rattle.std.proofs.lemmas.Fmt.{decimal_by_steps}
use Rattle.std.proofs.lemmas.List.Folds.{list_any-append}
use Rattle.std.specs.Fmt.{decimal}
use Rattle.hq_base.specs.Text.{has_zero}

-- the digits of a number are no zero byte
digit_is_no_zero : (d : ℕ) → has_zero ((48 + d) ∷ []) ≡ false
digit_is_no_zero d = grind (arith, nat_tests)

-- two texts without a zero byte make one
pub has_zero-append : (s t : List ℕ) → has_zero s ≡ false → has_zero t ≡ false → has_zero (s ++ t) ≡ false
has_zero-append s t no_zero_in_s no_zero_in_t =
    list_any-append (λ b. nat_eq b 0) s t ∙ ap (λ x. x || has_zero t) no_zero_in_s ∙ no_zero_in_t

-- a number in decimal has no zero byte
pub has_zero-decimal : (n : ℕ) → n < 2 ^ 64 → has_zero (decimal n) ≡ false
has_zero-decimal =
    decimal_by_steps (λ n ds. has_zero ds ≡ false) (λ n below. digit_is_no_zero n)
    (λ n ds above rest. has_zero-append ds ((48 + n % 10) ∷ []) rest (digit_is_no_zero (n % 10)))
