-- Escapes in strings (GraphQL October 2021, 2.9.4).
use Rattle.std.specs.Prelude.{ℕ, ◌+◌, ◌*◌, List, ◌∷◌, drop, ◌&&◌, ◌||◌, ◌==◌, Option, Some, None, if◌then◌else◌, option_and_then, option_map}
use Rattle.std.specs.Char.{is_digit, digit_value}
use Rattle.std.specs.Char.Utf16.{is_high_surrogate, is_low_surrogate, surrogate_pair_char}

-- the character that a `\` and this byte stand for
abbrev pub simple_escape : ℕ → Option ℕ
simple_escape b =
    if b == 34 then Some 34
    else (if b == 92 then Some 92
    else (if b == 47 then Some 47
    else (if b == 98 then Some 8
    else (if b == 102 then Some 12
    else (if b == 110 then Some 10
    else (if b == 114 then Some 13
    else (if b == 116 then Some 9 else None)))))))

-- the code unit of a `\u` and four hexadecimal digits at the front
abbrev pub unit_at : List ℕ → Option ℕ
unit_at (slash ∷ u ∷ a ∷ b ∷ c ∷ d ∷ bytes) =
    if slash == 92 && u == 117 && is_digit a 16 && is_digit b 16 && is_digit c 16 && is_digit d 16
    then Some (((digit_value a * 16 + digit_value b) * 16 + digit_value c) * 16 + digit_value d)
    else None
unit_at _ = None

-- the character of a high surrogate and the unit after it, which is a low one
abbrev pub pair_of : ℕ → Option ℕ → Option ℕ
pair_of high None = None
pair_of high (Some low) = if is_low_surrogate low then Some (surrogate_pair_char high low) else None

-- The character of one unit, or of two that are a surrogate pair, and the bytes of the escape. A surrogate alone is
-- none, and neither is the zero character (own).
abbrev pub character_of : ℕ → List ℕ → Option (ℕ × ℕ)
character_of unit bytes =
    if is_high_surrogate unit then option_map (λ c. (c, 12)) (pair_of unit (unit_at bytes))
    else (if is_low_surrogate unit || unit == 0 then None else Some (unit, 6))

-- the character of a `\u` escape at the front, and how many bytes it takes
unfoldable pub unicode_escape : List ℕ → Option (ℕ × ℕ)
unicode_escape bytes = option_and_then (λ unit. character_of unit (drop 6 bytes)) (unit_at bytes)

-- the character of a simple escape, or else of a `\u`
abbrev pub simple_or : Option ℕ → Option (ℕ × ℕ) → Option (ℕ × ℕ)
simple_or None other = other
simple_or (Some c) other = Some (c, 2)

-- the character of the escape at the front, which begins with a `\`, and how many bytes the escape takes
unfoldable pub escape_at : List ℕ → Option (ℕ × ℕ)
escape_at (slash ∷ b ∷ bytes) = simple_or (simple_escape b) (unicode_escape (slash ∷ b ∷ bytes))
escape_at _ = None
