-- The characters of a text, of one byte or of several.
use Rattle.std.proofs.Common.{◌≡◌, ℕ, ◌<◌, ◌≤◌, Bool, true, false, List, [], ◌∷◌, ◌++◌, length, get_or, refl, sym, subst, ⊎_elim, arith}
use Rattle.std.specs.Prelude.{◌≢◌, nat_le, nat_eq}
use Rattle.std.specs.List.{list_all}
use Rattle.std.specs.Char.{IsScalar}
use Rattle.std.specs.Str.{IsUtf8}
use lib.Utf8.{scalar, scalars, encode, encodes}
use Rattle.std.proofs.lemmas.Bool.{cases_lt}
use Rattle.std.proofs.lemmas.Bool.Decides.{nat_tests}
use Rattle.std.proofs.lemmas.List.{append-nil, get_or_default}
use Rattle.std.proofs.lemmas.List.Sums.{list_all-from_AllPass}
use Rattle.std.proofs.lemmas.Str.{encode_ascii, IsUtf8-encode, inside_one, IsUtf8-drop, IsCharBoundary-after_ascii, length-encode, len_utf8_bounds}
use Rattle.hq_base.specs.Text.{has_zero}
use Rattle.hq_gql_lexer.proofs.TextLemmas.{IsText, IsText-byte, and_parts, is_ascii_text}

-- a byte of a character of several
abbrev pub is_high : ℕ → Bool
is_high b = nat_le 128 b

-- a text is empty, or begins with a character of one byte or of several
pub data TextParts : List ℕ → Type 0 where
  none : TextParts []
  ascii : (b : ℕ) (rest : List ℕ) → b < 128 → IsUtf8 rest → TextParts (b ∷ rest)
  wide : (c : ℕ) (rest : List ℕ) → IsScalar c → 128 ≤ c → IsUtf8 rest → TextParts (encode c ++ rest)

-- the bytes of characters come one character after the other
parts_of : (cs : List ℕ) → scalars cs ≡ true → TextParts (encodes cs)
parts_of [] h = none
parts_of (c ∷ cs) h =
    let ok = and_parts (scalar c) (scalars cs) h in
    let rest : IsUtf8 (encodes cs) = (cs, (ok.1, refl)) in
    ⊎_elim
    (λ (one : c < 128). subst (λ bytes. TextParts (bytes ++ encodes cs)) (sym (encode_ascii c one)) (ascii c (encodes cs) one rest))
    (λ (more : 128 ≤ c). wide c (encodes cs) ok.0 more rest)
    (cases_lt c 128)

-- UTF-8 comes one character after the other
pub text_parts : (bytes : List ℕ) → IsUtf8 bytes → TextParts bytes
text_parts bytes u = subst TextParts u.1.1 (parts_of u.0 u.1.0)

-- a byte of 128 and more passes the test
high_test : (b : ℕ) → 128 ≤ b → is_high b ≡ true
high_test b h = grind (arith, nat_tests)

-- within a list the default of a look-up is of no weight
get_or_same : (bytes : List ℕ) (k d : ℕ) → k < length bytes → 128 ≤ get_or bytes k 0 → 128 ≤ get_or bytes k d
get_or_same bytes k d within h = subst (λ b. 128 ≤ b) (get_or_default bytes k 0 d within) h

-- each byte of a character past U+007F is high
pub encode-is_high : (c : ℕ) → 128 ≤ c → list_all is_high (encode c) ≡ true
encode-is_high c more = list_all-from_AllPass is_high (encode c) (λ k d within.
    ⊎_elim
    (λ (low : get_or (encode c) k 0 < 128).
    let is_it : c ≡ get_or (encode c) k 0 = inside_one c [] (encode c) k (sym (append-nil (encode c))) within low in
    absurd (omega arith))
    (λ (high : 128 ≤ get_or (encode c) k 0). high_test _ (get_or_same (encode c) k d within high))
    (cases_lt (get_or (encode c) k 0) 128))

-- each character has a byte
pub length-encode_some : (c : ℕ) → 0 < length (encode c)
length-encode_some c = omega (arith, length-encode c, (len_utf8_bounds c).0)

-- a text without its first byte, where that is ASCII
pub IsUtf8-tail : (b : ℕ) (bytes : List ℕ) → b < 128 → IsUtf8 (b ∷ bytes) → IsUtf8 bytes
IsUtf8-tail b bytes one u = IsUtf8-drop (b ∷ bytes) 1 u (IsCharBoundary-after_ascii (b ∷ bytes) 0 u (omega arith) one)

-- no byte of 128 and more is zero
no_zero_high : (bytes : List ℕ) → list_all is_high bytes ≡ true → has_zero bytes ≡ false
no_zero_high [] h = refl
no_zero_high (b ∷ bytes) h = let ok = and_parts (is_high b) (list_all is_high bytes) h in rw (differs b ok.0) (no_zero_high bytes ok.1)
  where
    differs : (b : ℕ) → is_high b ≡ true → nat_eq b 0 ≡ false
    differs b h = grind (arith, nat_tests)

-- a character of one byte that is not zero is a text of its own
ascii_text : (c : ℕ) → c ≢ 0 → c < 128 → is_ascii_text c ≡ true
ascii_text c some one = grind (arith, nat_tests)

-- the bytes of a character but the zero one are a text
pub encode-IsText : (c : ℕ) → IsScalar c → c ≢ 0 → IsText (encode c)
encode-IsText c ok some = ⊎_elim
    (λ (one : c < 128). subst IsText (sym (encode_ascii c one)) (IsText-byte c (ascii_text c some one)))
    (λ (more : 128 ≤ c). record { utf8 = IsUtf8-encode c ok; no_zero = no_zero_high (encode c) (encode-is_high c more) })
    (cases_lt c 128)
