-- Bytes that are a text: UTF-8 without a zero byte.
use Rattle.std.proofs.Common.{◌≡◌, ℕ, ◌<◌, Bool, true, false, List, [], ◌∷◌, ◌++◌, Ok, refl, sym, arith}
use Rattle.std.specs.Prelude.{◌&&◌, ◌||◌, nat_lt, nat_eq}
use Rattle.std.specs.List.{list_all}
use Rattle.std.specs.Str.{IsUtf8}
use Rattle.std.proofs.lemmas.Bool.{false≢true}
use Rattle.std.proofs.lemmas.Bool.Decides.{nat_tests}
use Rattle.std.proofs.lemmas.Str.{IsUtf8-append, IsUtf8-from_ascii, IsUtf8-nil, is_utf8-from_IsUtf8}
use Rattle.std.proofs.lemmas.Str.Ascii.{IsAscii-cons, IsAscii-nil}
use Rattle.hq_base.specs.Text.{has_zero}
use Rattle.hq_base.specs.Refused.{text_of}

-- tests joined by and, by or
pub both : {s t : Bool} → s ≡ true → t ≡ true → (s && t) ≡ true
both h k = rw h k

-- both of two
pub and_parts : (s t : Bool) → (s && t) ≡ true → (s ≡ true) × (t ≡ true)
and_parts true t h = (refl, h)
and_parts false t h = absurd (false≢true h)

-- neither of two
pub or_parts : (s t : Bool) → (s || t) ≡ false → (s ≡ false) × (t ≡ false)
or_parts false t h = (refl, h)
or_parts true t h = absurd (false≢true (sym h))

-- bytes that are a text
pub record IsText (bytes : List ℕ) : Type 0 where
  pub utf8 : IsUtf8 bytes
  pub no_zero : has_zero bytes ≡ false

-- such bytes are read as a text
pub text_of-IsText : (bytes : List ℕ) → IsText bytes → text_of bytes ≡ Ok bytes
text_of-IsText bytes t = rw (is_utf8-from_IsUtf8 bytes t.utf8) (rw t.no_zero refl)

-- two lists without a zero byte
has_zero-append : (xs ys : List ℕ) → has_zero xs ≡ false → has_zero ys ≡ false → has_zero (xs ++ ys) ≡ false
has_zero-append [] ys h k = k
has_zero-append (x ∷ xs) ys h k = let parts = or_parts (nat_eq x 0) (has_zero xs) h in rw parts.0 (has_zero-append xs ys parts.1 k)

-- no bytes are a text
pub IsText-nil : IsText []
IsText-nil = record { utf8 = IsUtf8-nil; no_zero = refl }

-- two texts one behind the other are a text
pub IsText-append : (xs ys : List ℕ) → IsText xs → IsText ys → IsText (xs ++ ys)
IsText-append xs ys t u = record { utf8 = IsUtf8-append xs ys t.utf8 u.utf8; no_zero = has_zero-append xs ys t.no_zero u.no_zero }

-- a character of ASCII but the zero one
abbrev pub is_ascii_text : ℕ → Bool
is_ascii_text b = nat_lt 0 b && nat_lt b 128

-- such a byte is ASCII
below : (b : ℕ) → is_ascii_text b ≡ true → b < 128
below b h = grind (arith, nat_tests)

-- such a byte is not zero
not_zero : (b : ℕ) → is_ascii_text b ≡ true → (nat_eq b 0 || false) ≡ false
not_zero b h = grind (arith, nat_tests)

-- such a byte is a text
pub IsText-byte : (b : ℕ) → is_ascii_text b ≡ true → IsText (b ∷ [])
IsText-byte b h = record { utf8 = IsUtf8-from_ascii (b ∷ []) (IsAscii-cons b [] (below b h) IsAscii-nil); no_zero = not_zero b h }

-- bytes that pass a test of ASCII characters
pub IsText-all : (p : ℕ → Bool) → ((b : ℕ) → p b ≡ true → is_ascii_text b ≡ true) → (bytes : List ℕ) → list_all p bytes ≡ true → IsText bytes
IsText-all p ascii [] h = IsText-nil
IsText-all p ascii (b ∷ bytes) h =
    let parts = and_parts (p b) (list_all p bytes) h in
    IsText-append (b ∷ []) bytes (IsText-byte b (ascii b parts.0)) (IsText-all p ascii bytes parts.1)
