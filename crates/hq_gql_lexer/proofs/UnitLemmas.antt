-- What `\u` escapes stand for, by the tests that the lexer makes of their units.
use Rattle.std.proofs.Common.{◌≡◌, ◌∙◌, ℕ, ◌-◌, true, false, List, length, take, drop, Some, None, refl, ap, is_le, is_lt, nat_cmp, length-drop, arith}
use Rattle.std.specs.Prelude.{◌≢◌, ◌&&◌, ◌||◌, ◌==◌, nat_le, nat_lt}
use Rattle.std.specs.Char.{IsScalar}
use Rattle.std.specs.Char.Utf16.{is_high_surrogate, is_low_surrogate, surrogate_pair_char}
use Rattle.std.proofs.lemmas.Bool.Decides.{nat_tests}
use Rattle.std.proofs.lemmas.List.{take_all}
use Rattle.hq_gql_lexer.specs.Escapes.{unit_at, unicode_escape}

-- a number that `contains` finds in a range
pub in_range : (low high n : ℕ) → true ≡ (is_le (nat_cmp low n) && is_lt (nat_cmp n high)) → (nat_le low n && nat_lt n high) ≡ true
in_range low high n h = grind (arith, nat_tests)

-- a number that it does not find there
pub out_of_range : (low high n : ℕ) → false ≡ (is_le (nat_cmp low n) && is_lt (nat_cmp n high)) → (nat_le low n && nat_lt n high) ≡ false
out_of_range low high n h = grind (arith, nat_tests)

-- a character that is not zero is no low surrogate
no_low_surrogate : (unit : ℕ) → IsScalar unit → unit ≢ 0 → (is_low_surrogate unit || unit == 0) ≡ false
no_low_surrogate unit is_scalar some = grind (arith, nat_tests)

-- one unit that is a character
pub lone_unit : (bytes : List ℕ) (unit c : ℕ) → Some unit ≡ unit_at bytes → is_high_surrogate unit ≡ false → unit ≢ 0 → IsScalar unit → c ≡ unit → Some (c, 6) ≡ unicode_escape bytes
unfolding unicode_escape
lone_unit bytes unit c read high some is_scalar is = rw (← read, high, no_low_surrogate unit is_scalar some) (ap (λ n. Some (n, 6)) is)

-- the bytes behind a unit, as a slice
behind_unit : (bytes : List ℕ) → take (length bytes - 6) (drop 6 bytes) ≡ drop 6 bytes
behind_unit bytes = take_all (length bytes - 6) (drop 6 bytes) (omega (arith, length-drop 6 bytes))

-- a high surrogate with no unit behind it
pub no_second_unit : (bytes : List ℕ) (high : ℕ) → Some high ≡ unit_at bytes → is_high_surrogate high ≡ true → None ≡ unit_at (take (length bytes - 6) (drop 6 bytes)) → None ≡ unicode_escape bytes
unfolding unicode_escape
no_second_unit bytes high read is_high second = let behind = second ∙ ap unit_at (behind_unit bytes) in rw (← read, is_high, ← behind) refl

-- a high surrogate and a low one
pub two_units : (bytes : List ℕ) (high low c : ℕ) → Some high ≡ unit_at bytes → is_high_surrogate high ≡ true
    → Some low ≡ unit_at (take (length bytes - 6) (drop 6 bytes)) → is_low_surrogate low ≡ true
    → c ≡ surrogate_pair_char high low → Some (c, 12) ≡ unicode_escape bytes
unfolding unicode_escape
two_units bytes high low c read is_high second is_low is = let behind = second ∙ ap unit_at (behind_unit bytes) in rw (← read, is_high, ← behind, is_low) (ap (λ n. Some (n, 12)) is)
