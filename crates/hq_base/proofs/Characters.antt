-- The first character of a text.
use Rattle.std.proofs.Common.{◌≡◌, ◌∙◌, ap, sym, ℕ, List, [], ◌∷◌, ◌++◌, length, true, IsUtf8, arith, length-append}
use Rattle.std.specs.Str.{chars}
use Rattle.std.proofs.lemmas.Bool.{and_parts}
use Rattle.std.proofs.lemmas.Str.{chars-encodes, chars-nil, encode_same, length-encode, len_utf8_bounds}
use lib.Utf8.{scalar, scalars, encode, encodes}

first_at : (cs rest : List ℕ) (c : ℕ) → scalars cs ≡ true → encodes cs ≡ encode c ++ rest → chars (encodes cs) ≡ c ∷ chars rest
first_at [] rest c are is = absurd (omega (arith, ap length is, length-append (encode c) rest, length-encode c, len_utf8_bounds c))
first_at (d ∷ ds) rest c are is =
    let same = encode_same d c (encodes ds) rest is in
    let later = (and_parts (scalar d) (scalars ds) are).1 in
    chars-encodes (d ∷ ds) are ∙ ap (λ x. x ∷ ds) same.0 ∙ ap (λ xs. c ∷ xs) (sym (chars-encodes ds later) ∙ ap chars same.1)

-- the characters of a text are its first one and those of the rest
pub chars_first : (text rest : List ℕ) (c : ℕ) → IsUtf8 text → text ≡ encode c ++ rest → chars text ≡ c ∷ chars rest
chars_first text rest c utf8 is = ap chars (sym utf8.1.1) ∙ first_at utf8.0 rest c utf8.1.0 (utf8.1.1 ∙ is)

-- and there is none of an empty text
pub chars_empty : (text : List ℕ) → length text ≡ 0 → chars text ≡ []
chars_empty [] h = chars-nil
chars_empty (b ∷ bs) h = absurd (omega arith)
