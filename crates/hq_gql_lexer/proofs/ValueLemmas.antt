-- The value of a block string is a text.
use Rattle.std.proofs.Common.{◌≡◌, ℕ, zero, suc, ◌-◌, ◌<◌, ◌≤◌, min, Bool, true, false, cond, List, [], ◌∷◌, ◌++◌, length, take, drop, map, Option, Some, None, refl, sym, ap, ◌∙◌, subst, ⊎_elim, arith}
use Rattle.std.specs.Prelude.{◌==◌, nat_eq, unwrap_or, ⊤}
use Rattle.std.specs.List.{list_all, prefix_len, suffix_len, AllByRecursion, join_with_byte}
use lib.Utf8.{encode}
use Rattle.std.proofs.lemmas.Bool.{cases_Bool, cond-true, cond-false, eqb-true}
use Rattle.std.proofs.lemmas.Bool.Decides.{nat_tests}
use Rattle.std.proofs.lemmas.List.{length-append}
use Rattle.std.proofs.lemmas.Str.{IsUtf8-from_ascii}
use Rattle.std.proofs.lemmas.Str.Ascii.{IsAscii-cons, IsAscii-nil}
use Rattle.hq_base.specs.Text.{has_zero}
use Rattle.hq_gql_lexer.specs.Characters.{next_is, is_white_space}
use Rattle.hq_gql_lexer.specs.BlockStrings.{onto_first, lines_of, indent_of, is_blank, lesser, common_indent, dedented, without_blank_front, without_blank_back, block_value}
use Rattle.hq_gql_lexer.proofs.TextLemmas.{IsText, IsText-nil, IsText-append, IsText-byte, and_parts, or_parts}
use Rattle.hq_gql_lexer.proofs.CharacterLemmas.{is_high, TextParts, none, ascii, wide, text_parts, encode-is_high, length-encode_some, encode-IsText, IsUtf8-tail}
use Rattle.hq_gql_lexer.proofs.LinesLemmas.{not_end, inside, prefix_len_yes, prefix_len_no}

-- a text behind its first byte, and that byte
text_tail : (b : ℕ) (rest : List ℕ) → b < 128 → IsText (b ∷ rest) → IsText rest
text_tail b rest one t = record { utf8 = IsUtf8-tail b rest one t.utf8; no_zero = (or_parts (nat_eq b 0) (has_zero rest) t.no_zero).1 }

-- the first byte of a text is a text, where it is ASCII
text_head : (b : ℕ) (rest : List ℕ) → b < 128 → IsText (b ∷ rest) → IsText (b ∷ [])
text_head b rest one t = record {
  utf8 = IsUtf8-from_ascii (b ∷ []) (IsAscii-cons b [] one IsAscii-nil);
  no_zero = rw (or_parts (nat_eq b 0) (has_zero rest) t.no_zero).0 refl;
}

-- bytes put before the first line
abbrev before_first : List ℕ → List (List ℕ) → List (List ℕ)
before_first front [] = front ∷ []
before_first front (line ∷ lines) = (front ++ line) ∷ lines

-- a byte and a front before the first line are one front
onto_before : (b : ℕ) (front : List ℕ) (lines : List (List ℕ)) → onto_first b (before_first front lines) ≡ before_first (b ∷ front) lines
onto_before b front [] = refl
onto_before b front (line ∷ lines) = refl

-- an empty front changes no line
before_none : (lines : List (List ℕ)) → 0 < length lines → lines ≡ before_first [] lines
before_none [] some = absurd (omega arith)
before_none (line ∷ lines) some = refl

-- there is a first line
onto_some : (b : ℕ) (lines : List (List ℕ)) → 0 < length (onto_first b lines)
onto_some b [] = omega arith
onto_some b (line ∷ lines) = omega arith

-- so there is whichever way the byte goes
chosen_some : (s t u : Bool) (a b c d : List (List ℕ)) → 0 < length a → 0 < length b → 0 < length c → 0 < length d → 0 < length (cond s a (cond t (cond u b c) d))
chosen_some true t u a b c d ha hb hc hd = ha
chosen_some false true true a b c d ha hb hc hd = hb
chosen_some false true false a b c d ha hb hc hd = hc
chosen_some false false u a b c d ha hb hc hd = hd

-- each text has a line
lines_some : (bytes : List ℕ) → 0 < length (lines_of bytes)
lines_some [] = omega arith
lines_some (b ∷ bytes) = chosen_some (b == 10) (b == 13) (next_is (λ c. c == 10) bytes) ([] ∷ lines_of bytes) (lines_of bytes) ([] ∷ lines_of bytes) (onto_first b (lines_of bytes))
    (omega arith) (lines_some bytes) (omega arith) (onto_some b (lines_of bytes))

-- a byte of 128 and more ends no line
high_not_end : (b : ℕ) → is_high b ≡ true → not_end b ≡ true
high_not_end b h = grind (arith, nat_tests)

-- a front of such bytes stands on the first line
lines_over : (front bytes : List ℕ) → list_all is_high front ≡ true → lines_of (front ++ bytes) ≡ before_first front (lines_of bytes)
lines_over [] bytes h = before_none (lines_of bytes) (lines_some bytes)
lines_over (b ∷ front) bytes h =
    let ok = and_parts (is_high b) (list_all is_high front) h in
    inside b (front ++ bytes) (high_not_end b ok.0) ∙ ap (onto_first b) (lines_over front bytes ok.1) ∙ onto_before b front (lines_of bytes)

-- each line is a text
abbrev AreTexts : List (List ℕ) → Type 0
AreTexts lines = AllByRecursion IsText lines

-- so they are with a text before the first
before_texts : (front : List ℕ) (lines : List (List ℕ)) → IsText front → AreTexts lines → AreTexts (before_first front lines)
before_texts front [] t all = (t, tt)
before_texts front (line ∷ lines) t all = (IsText-append front line t all.0, all.1)

-- so they are with a byte before the first
onto_texts : (b : ℕ) (lines : List (List ℕ)) → IsText (b ∷ []) → AreTexts lines → AreTexts (onto_first b lines)
onto_texts b [] t all = (t, tt)
onto_texts b (line ∷ lines) t all = (IsText-append (b ∷ []) line t all.0, all.1)

-- so they are whichever way the byte goes
chosen_texts : (s t u : Bool) (a b c d : List (List ℕ)) → AreTexts a → AreTexts b → AreTexts c → AreTexts d → AreTexts (cond s a (cond t (cond u b c) d))
chosen_texts true t u a b c d ha hb hc hd = ha
chosen_texts false true true a b c d ha hb hc hd = hb
chosen_texts false true false a b c d ha hb hc hd = hc
chosen_texts false false u a b c d ha hb hc hd = hd

-- the lines of a text are texts
lines_texts : (m : ℕ) (bytes : List ℕ) → length bytes < m → IsText bytes → TextParts bytes → AreTexts (lines_of bytes)
lines_texts zero bytes h t parts = absurd (omega arith)
lines_texts (suc m) bytes h t none = (IsText-nil, tt)
lines_texts (suc m) bytes h t (ascii b rest one utf8) =
    let tail = text_tail b rest one t in
    let all = lines_texts m rest (omega arith) tail (text_parts rest utf8) in
    chosen_texts (b == 10) (b == 13) (next_is (λ c. c == 10) rest) ([] ∷ lines_of rest) (lines_of rest) ([] ∷ lines_of rest) (onto_first b (lines_of rest))
    (IsText-nil, all) all (IsText-nil, all) (onto_texts b (lines_of rest) (text_head b rest one t) all)
lines_texts (suc m) bytes h t (wide c rest scalar more utf8) =
    let high = encode-is_high c more in
    let tail : IsText rest = record { utf8 = utf8; no_zero = no_zero_behind (encode c) rest t.no_zero } in
    let all = lines_texts m rest (omega (arith, length-append (encode c) rest, length-encode_some c)) tail (text_parts rest utf8) in
    subst AreTexts (sym (lines_over (encode c) rest high)) (before_texts (encode c) (lines_of rest) (encode-IsText c scalar (omega arith)) all)
  where
    no_zero_behind : (front rest : List ℕ) → has_zero (front ++ rest) ≡ false → has_zero rest ≡ false
    no_zero_behind [] rest h = h
    no_zero_behind (b ∷ front) rest h = no_zero_behind front rest (or_parts (nat_eq b 0) (has_zero (front ++ rest)) h).1

-- white space taken off the front
white_ascii : (b : ℕ) → is_white_space b ≡ true → b < 128
white_ascii b h = grind (arith, nat_tests)

-- a text without white space at its front is a text
drop_white : (n : ℕ) (line : List ℕ) → IsText line → min n (length line) ≤ indent_of line → IsText (drop n line)
drop_white zero line t h = t
drop_white (suc n) [] t h = IsText-nil
drop_white (suc n) (b ∷ line) t h = ⊎_elim
    (λ (white : is_white_space b ≡ true).
    drop_white n line (text_tail b line (white_ascii b white) t) (omega (arith, prefix_len_yes is_white_space b line white)))
    (λ (other : is_white_space b ≡ false). absurd (omega (arith, prefix_len_no is_white_space b line other)))
    (cases_Bool (is_white_space b))

-- no more than a number that there may be
abbrev IsAtMost : ℕ → Option ℕ → Type 0
IsAtMost n None = ⊤
IsAtMost n (Some m) = n ≤ m

-- what is no more than the lesser of two is no more than either
lesser_parts : (n i : ℕ) (o : Option ℕ) → IsAtMost n (lesser i o) → (n ≤ i) × IsAtMost n o
lesser_parts n i None h = (h, tt)
lesser_parts n i (Some m) h = (omega arith, omega arith)

-- an indentation that a line has, or that is all of a blank one
abbrev IsWithin : ℕ → List ℕ → Type 0
IsWithin n line = min n (length line) ≤ indent_of line

-- each line has the common indentation, or is blank
within_all : (lines : List (List ℕ)) (n : ℕ) → IsAtMost n (common_indent lines) → AllByRecursion (IsWithin n) lines
within_all [] n h = tt
within_all (line ∷ lines) n h = ⊎_elim
    (λ (blank : is_blank line ≡ true).
    (omega (arith, eqb-true (indent_of line) (length line) blank), within_all lines n (subst (IsAtMost n) (cond-true (is_blank line) _ _ blank) h)))
    (λ (other : is_blank line ≡ false).
    let parts = lesser_parts n (indent_of line) (common_indent lines) (subst (IsAtMost n) (cond-false (is_blank line) _ _ other) h) in
    (omega (arith, parts.0), within_all lines n parts.1))
    (cases_Bool (is_blank line))

-- a number that there may be is no more than itself
at_most_itself : (o : Option ℕ) → IsAtMost (unwrap_or o 0) o
at_most_itself None = tt
at_most_itself (Some n) = omega arith

-- lines without an indentation that each has are texts
drop_texts : (n : ℕ) (lines : List (List ℕ)) → AreTexts lines → AllByRecursion (IsWithin n) lines → AreTexts (map (drop n) lines)
drop_texts n [] all within = tt
drop_texts n (line ∷ lines) all within = (drop_white n line all.0 within.0, drop_texts n lines all.1 within.1)

-- lines without their common indentation are texts
dedented_texts : (lines : List (List ℕ)) → AreTexts lines → AreTexts (dedented lines)
dedented_texts [] all = tt
dedented_texts (first ∷ lines) all = (all.0, drop_texts _ lines all.1 (within_all lines _ (at_most_itself (common_indent lines))))

-- so are the last of some texts
texts-drop : (n : ℕ) (lines : List (List ℕ)) → AreTexts lines → AreTexts (drop n lines)
texts-drop zero lines all = all
texts-drop (suc n) [] all = tt
texts-drop (suc n) (line ∷ lines) all = texts-drop n lines all.1

-- so are the first of some texts
texts-take : (n : ℕ) (lines : List (List ℕ)) → AreTexts lines → AreTexts (take n lines)
texts-take zero lines all = tt
texts-take (suc n) [] all = tt
texts-take (suc n) (line ∷ lines) all = (all.0, texts-take n lines all.1)

-- texts with a line feed between each two are a text
joined_text : (lines : List (List ℕ)) → AreTexts lines → IsText (join_with_byte 10 lines)
joined_text [] all = IsText-nil
joined_text (line ∷ []) all = all.0
joined_text (line ∷ next ∷ lines) all =
    IsText-append line (10 ∷ join_with_byte 10 (next ∷ lines)) all.0 (IsText-append (10 ∷ []) (join_with_byte 10 (next ∷ lines)) (IsText-byte 10 refl) (joined_text (next ∷ lines) all.1))

-- the value of a block string is a text
pub block_value-IsText : (raw : List ℕ) → IsText raw → IsText (block_value raw)
unfolding block_value
block_value-IsText raw t =
    let lines = dedented (lines_of raw) in
    let inner = without_blank_front lines in
    let all = dedented_texts (lines_of raw) (lines_texts (suc (length raw)) raw (omega arith) t (text_parts raw t.utf8)) in
    joined_text (without_blank_back inner) (texts-take (length inner - suffix_len is_blank inner) inner (texts-drop (prefix_len is_blank lines) lines all))
