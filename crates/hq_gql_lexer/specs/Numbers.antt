-- Numbers (GraphQL October 2021, 2.9.1 and 2.9.2).
use Rattle.std.specs.Prelude.{ℕ, ◌+◌, List, ◌||◌, ◌&&◌, ◌==◌, nat_lt, drop, if◌then◌else◌}
use Rattle.std.specs.List.{prefix_len}
use Rattle.std.specs.Char.{is_ascii_digit}
use Rattle.hq_gql_lexer.specs.Characters.{next_is}

-- how many digits stand at the front
abbrev pub digits_len : List ℕ → ℕ
digits_len = prefix_len is_ascii_digit

-- how many bytes a `-` takes
abbrev pub minus_len : List ℕ → ℕ
minus_len bytes = if next_is (λ b. b == 45) bytes then 1 else 0

-- a 0, or a digit that is not 0 and all digits after it
abbrev pub natural_len : List ℕ → ℕ
natural_len bytes = if next_is (λ b. b == 48) bytes then 1 else digits_len bytes

-- IntegerPart
abbrev pub integer_len : List ℕ → ℕ
integer_len bytes = minus_len bytes + natural_len (drop (minus_len bytes) bytes)

-- FractionalPart: a `.` and digits
abbrev pub fraction_len : List ℕ → ℕ
fraction_len bytes = if next_is (λ b. b == 46) bytes && next_is is_ascii_digit (drop 1 bytes) then 1 + digits_len (drop 1 bytes) else 0

-- how many bytes a sign takes
abbrev pub sign_len : List ℕ → ℕ
sign_len bytes = if next_is (λ b. b == 43 || b == 45) bytes then 1 else 0

-- digits, which may stand behind a sign
abbrev pub signed_digits_len : List ℕ → ℕ
signed_digits_len bytes = let behind = drop (sign_len bytes) bytes in
    if next_is is_ascii_digit behind then sign_len bytes + digits_len behind else 0

-- ExponentPart: an `e` or `E` and the same
abbrev pub exponent_len : List ℕ → ℕ
exponent_len bytes = let digits = signed_digits_len (drop 1 bytes) in
    if next_is (λ b. b == 101 || b == 69) bytes && nat_lt 0 digits then 1 + digits else 0

-- IntegerPart, and the FractionalPart and ExponentPart that there may be
abbrev pub number_len : List ℕ → ℕ
number_len bytes =
    let whole = integer_len bytes in
    let part = whole + fraction_len (drop whole bytes) in
    part + exponent_len (drop part bytes)
