-- Each lexeme takes at least a byte, and no more than there are.
use Rattle.std.proofs.Common.{ℕ, ◌+◌, ◌≤◌, Bool, true, false, cond, List, [], ◌∷◌, length, drop, arith}
use Rattle.std.specs.Prelude.{◌||◌, ◌==◌}
use Rattle.std.specs.Char.{is_ascii_digit}
use Rattle.std.proofs.lemmas.List.{length-drop}
use Rattle.std.proofs.lemmas.List.Sums.{prefix_len-le-length}
use Rattle.hq_gql_lexer.specs.Characters.{next_is}
use Rattle.hq_gql_lexer.specs.Numbers.{digits_len, minus_len, natural_len, integer_len, fraction_len, sign_len, signed_digits_len, exponent_len, number_len}

-- a test's answer within a bound
cond_within : (t : Bool) (n m k : ℕ) → n ≤ k → m ≤ k → cond t n m ≤ k
cond_within true n m k h j = h
cond_within false n m k h j = j

-- a part behind a part is within the text
both_within : (bytes : List ℕ) (m n : ℕ) → m ≤ length bytes → n ≤ length (drop m bytes) → m + n ≤ length bytes
both_within bytes m n h k = omega (arith, length-drop m bytes)

-- digits are within the text
digits_within : (bytes : List ℕ) → digits_len bytes ≤ length bytes
digits_within bytes = prefix_len-le-length is_ascii_digit bytes

-- one byte is within the text where it is next
one_within : (p : ℕ → Bool) (bytes : List ℕ) → cond (next_is p bytes) 1 0 ≤ length bytes
one_within p [] = omega arith
one_within p (b ∷ bytes) = cond_within (p b) 1 0 _ (omega arith) (omega arith)

-- digits without a leading 0 are within the text
natural_within : (bytes : List ℕ) → natural_len bytes ≤ length bytes
natural_within [] = omega arith
natural_within (b ∷ bytes) = cond_within (b == 48) 1 (digits_len (b ∷ bytes)) _ (omega arith) (digits_within (b ∷ bytes))

-- an IntegerPart is within the text
integer_within : (bytes : List ℕ) → integer_len bytes ≤ length bytes
integer_within bytes =
    let minus = minus_len bytes in
    both_within bytes minus (natural_len (drop minus bytes)) (one_within (λ b. b == 45) bytes) (natural_within (drop minus bytes))

-- a FractionalPart is within the text
fraction_within : (bytes : List ℕ) → fraction_len bytes ≤ length bytes
fraction_within [] = omega arith
fraction_within (b ∷ bytes) = cond_within _ (1 + digits_len bytes) 0 _ (omega (arith, digits_within bytes)) (omega arith)

-- digits behind a sign are within the text
signed_within : (bytes : List ℕ) → signed_digits_len bytes ≤ length bytes
signed_within bytes =
    let sign = sign_len bytes in
    cond_within (next_is is_ascii_digit (drop sign bytes)) (sign + digits_len (drop sign bytes)) 0 _
    (both_within bytes sign (digits_len (drop sign bytes)) (one_within (λ b. b == 43 || b == 45) bytes) (digits_within (drop sign bytes))) (omega arith)

-- an ExponentPart is within the text
exponent_within : (bytes : List ℕ) → exponent_len bytes ≤ length bytes
exponent_within [] = omega arith
exponent_within (b ∷ bytes) = cond_within _ (1 + signed_digits_len bytes) 0 _ (omega (arith, signed_within bytes)) (omega arith)

-- a number is within the text
pub number_within : (bytes : List ℕ) → number_len bytes ≤ length bytes
number_within bytes =
    let whole = integer_len bytes in
    let fraction = fraction_len (drop whole bytes) in
    both_within bytes (whole + fraction) (exponent_len (drop (whole + fraction) bytes))
    (both_within bytes whole fraction (integer_within bytes) (fraction_within (drop whole bytes)))
    (exponent_within (drop (whole + fraction) bytes))
