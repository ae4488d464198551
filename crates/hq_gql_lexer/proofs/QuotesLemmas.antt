-- Block strings are of their production, and their values before they are laid out are texts.
use Rattle.std.proofs.Common.{◌≡◌, ℕ, zero, suc, ◌+◌, ◌-◌, ◌<◌, ◌≤◌, Bool, true, false, cond, List, [], ◌∷◌, ◌++◌, length, take, drop, Option, Some, None, Ok, refl, sym, ap, ◌∙◌, subst, ⊎_elim, arith, append_assoc, lit<}
use Rattle.std.specs.Prelude.{IsTrue, nat_eq}
use Rattle.std.specs.List.{list_all, starts_with}
use Rattle.std.specs.Option.{option_map}
use Rattle.std.specs.Str.{IsUtf8, IsAscii}
use Rattle.std.proofs.lemmas.Str.Ascii.{IsAscii-cons, IsAscii-nil}
use Rattle.std.specs.Cmp.Lexicographic.{pointwise, same_text}
use lib.Utf8.{encode, low_scalar}
use Rattle.std.proofs.lemmas.Bool.{cases_Bool, cond-true, cond-false, false≢true, false_from_ne_true}
use Rattle.std.proofs.lemmas.Bool.Decides.{nat_tests}
use Rattle.std.proofs.lemmas.List.{length-append, length-drop, take-append-le, drop-append-le, take-append-drop}
use Rattle.std.proofs.lemmas.Str.{encode_ascii, IsUtf8-from_ascii}
use Rattle.hq_gql_lexer.specs.declared.characters.StringKind.TheVariants.{Block}
use Rattle.hq_gql_lexer.specs.Characters.{is_source}
use Rattle.hq_gql_lexer.specs.Steps.{steps}
use Rattle.hq_gql_lexer.specs.Strings.{quotes, block_step, block_len, source_at, character_at, characters}
use Rattle.hq_gql_lexer.specs.Grammar.{IsBlockRest, closed, character, escape}
use Rattle.hq_gql_lexer.proofs.TextLemmas.{IsText, IsText-nil, IsText-append, IsText-all, is_ascii_text, and_parts}
use Rattle.hq_gql_lexer.proofs.CharacterLemmas.{is_high, TextParts, none, ascii, wide, text_parts, encode-is_high, length-encode_some, encode-IsText}
use Rattle.hq_gql_lexer.proofs.OptionLemmas.{option_map-add, option_map-zero}
use Rattle.hq_gql_lexer.proofs.StepsLemmas.{steps_first, steps_skip, Copies, copied}
use Rattle.hq_gql_lexer.proofs.ReadLemmas.{characters_read}
use Rattle.hq_gql_lexer.proofs.BlockLemmas.{block_skip}
use Rattle.hq_gql_lexer.proofs.PlainLemmas.{copies_source, source_first, counted_back, wide_source, source_some, IsUtf8-behind}

-- bytes that begin with others
pub begins : (needle bytes : List ℕ) → starts_with nat_eq bytes needle ≡ true → bytes ≡ needle ++ drop (length needle) bytes
begins needle bytes h =
    let front : needle ≡ take (length needle) bytes = same_text needle (take (length needle) bytes) (sym h) in
    sym (take-append-drop (length needle) bytes) ∙ ap (λ xs. xs ++ drop (length needle) bytes) (sym front)

-- whether a text begins with some bytes is seen in as many of its own
pub starts_local : (needle xs ys : List ℕ) → length needle ≤ length xs → starts_with nat_eq (xs ++ ys) needle ≡ starts_with nat_eq xs needle
starts_local needle xs ys h = ap (pointwise nat_eq needle) (take-append-le (length needle) xs ys h)

-- a `\"""` begins with itself
starts_slashed : (rest : List ℕ) → starts_with nat_eq (92 ∷ (quotes ++ rest)) (92 ∷ quotes) ≡ true
starts_slashed rest = refl

-- bytes that differ fail the test
not_it : (n b : ℕ) → (n ≡ b → ⊥) → nat_eq n b ≡ false
not_it n b h = grind (arith, nat_tests)

-- no byte of 128 and more is a quote
differs_quote : (b : ℕ) → is_high b ≡ true → 34 ≡ b → ⊥
differs_quote b h e = grind (arith, nat_tests)

-- no byte of 128 and more is a `\`
differs_slash : (b : ℕ) → is_high b ≡ true → 92 ≡ b → ⊥
differs_slash b h e = grind (arith, nat_tests)

-- quotes are ASCII
pub quotes_ascii : IsAscii quotes
quotes_ascii = IsAscii-cons 34 (34 ∷ 34 ∷ []) (lit< tt) (IsAscii-cons 34 (34 ∷ []) (lit< tt) (IsAscii-cons 34 [] (lit< tt) IsAscii-nil))

-- a byte of a wide character begins neither
high_quote : (b : ℕ) (bytes : List ℕ) → is_high b ≡ true → starts_with nat_eq (b ∷ bytes) quotes ≡ false
high_quote b bytes h = rw (not_it 34 b (differs_quote b h)) refl

-- no `\"""` begins at a byte of 128 and more
high_slash : (b : ℕ) (bytes : List ℕ) → is_high b ≡ true → starts_with nat_eq (b ∷ bytes) (92 ∷ quotes) ≡ false
high_slash b bytes h = rw (not_it 92 b (differs_slash b h)) refl

-- a byte of 128 and more stands for itself in a block string
pub copies_block : Copies (character_at Block)
unfolding character_at
copies_block at b bytes h = cond-false (starts_with nat_eq (b ∷ bytes) (92 ∷ quotes)) _ _ (high_slash b bytes h) ∙ copies_source b h at bytes

-- a byte of 128 and more closes no block
block_len_high : (b : ℕ) (bytes : List ℕ) → is_high b ≡ true → block_len 0 (b ∷ bytes) ≡ option_map (λ n. 1 + n) (block_len 0 bytes)
block_len_high b bytes h =
    cond-false (starts_with nat_eq (b ∷ bytes) quotes) (Some 0) _ (high_quote b bytes h)
    ∙ ap (λ k. option_map (λ n. 1 + n) (block_len (k - 1) bytes)) (cond-false (starts_with nat_eq (b ∷ bytes) (92 ∷ quotes)) 4 1 (high_slash b bytes h))

-- nor does a front of such bytes
pub block_len_over : (front bytes : List ℕ) → list_all is_high front ≡ true → block_len 0 (front ++ bytes) ≡ option_map (λ n. length front + n) (block_len 0 bytes)
block_len_over [] bytes h = option_map-zero (block_len 0 bytes)
block_len_over (b ∷ front) bytes h =
    let ok = and_parts (is_high b) (list_all is_high front) h in
    block_len_high b (front ++ bytes) ok.0 ∙ ap (option_map (λ n. 1 + n)) (block_len_over front bytes ok.1)
    ∙ option_map-add 1 (length front) (suc (length front)) (block_len 0 bytes) (omega arith)

-- what a byte that stands before the closing quotes is
two_ways : (t : Bool) (o : Option ℕ) (n : ℕ) → cond t (Some 0) (option_map (λ k. 1 + k) o) ≡ Some (suc n) → (t ≡ false) × (o ≡ Some n)
two_ways true o n h = let e : 0 ≡ suc n = cc in absurd (omega arith)
two_ways false None n h = cc
two_ways false (Some k) n h = let e : 1 + k ≡ suc n = cc in (refl, ap Some (omega arith))

-- the first byte before the closing quotes
pub inside_block : (b n : ℕ) (behind : List ℕ) → block_len 0 (b ∷ behind) ≡ Some (suc n)
    → (starts_with nat_eq (b ∷ behind) quotes ≡ false) × (block_len (block_step (b ∷ behind) - 1) behind ≡ Some n)
inside_block b n behind h = two_ways _ _ n h

-- What stands before the closing quotes, and is read, is of the production.
pub record IsReadBlock (at : ℕ) (inside after raw : List ℕ) : Type 0 where
  pub ends : block_len 0 (inside ++ (quotes ++ after)) ≡ Some (length inside)
  pub utf8 : IsUtf8 inside
  pub read : steps (character_at Block) 0 at inside ≡ Ok raw

-- a `\"""`, which lies before the closing quotes
pub record IsSlashed (b : ℕ) (rest after : List ℕ) : Type 0 where
  pub is_slash : b ≡ 92
  pub begins : rest ≡ quotes ++ drop 3 rest
  pub ends : block_len 0 (drop 3 rest ++ (quotes ++ after)) ≡ Some (length (drop 3 rest))
  pub three : length rest ≡ 3 + length (drop 3 rest)

-- what a `\"""` has taken is counted
three_at_least : (bytes : List ℕ) (n : ℕ) → block_len 3 bytes ≡ Some n → (3 ≤ n) × (3 ≤ length bytes)
three_at_least [] n h = cc
three_at_least (a ∷ []) n h = cc
three_at_least (a ∷ b ∷ []) n h = cc
three_at_least (a ∷ b ∷ c ∷ bytes) n h = (three (block_len 0 bytes) n h, omega arith)
  where
    three : (o : Option ℕ) (n : ℕ) → option_map (λ k. 1 + k) (option_map (λ k. 1 + k) (option_map (λ k. 1 + k) o)) ≡ Some n → 3 ≤ n
    three None n h = cc
    three (Some k) n h = let e : 1 + (1 + (1 + k)) ≡ n = cc in omega arith

-- a `\"""` stands whole before the closing quotes
slashed_inside : (b : ℕ) (rest after : List ℕ) → starts_with nat_eq (b ∷ (rest ++ (quotes ++ after))) (92 ∷ quotes) ≡ true
    → block_len (block_step (b ∷ (rest ++ (quotes ++ after))) - 1) (rest ++ (quotes ++ after)) ≡ Some (length rest) → IsSlashed b rest after
slashed_inside b rest after slash h =
    let tail = quotes ++ after in
    let all = rest ++ tail in
    let step : block_step (b ∷ all) ≡ 4 = cond-true (starts_with nat_eq (b ∷ all) (92 ∷ quotes)) 4 1 slash in
    let taken : block_len 3 all ≡ Some (length rest) = subst (λ k. block_len (k - 1) all ≡ Some (length rest)) step h in
    let some = three_at_least all (length rest) taken in
    let front = begins (92 ∷ quotes) (b ∷ all) slash in
    let is_slash : b ≡ 92 = cc in
    let behind : all ≡ quotes ++ drop 3 all = cc in
    let here : take 3 rest ≡ quotes = sym (take-append-le 3 rest tail some.0) ∙ ap (take 3) behind in
    let three : length rest ≡ 3 + length (drop 3 rest) = omega (arith, some.0, length-drop 3 rest) in
    record {
      is_slash = is_slash;
      begins = sym (take-append-drop 3 rest) ∙ ap (λ xs. xs ++ drop 3 rest) here;
      ends = counted_back 3 (length (drop 3 rest)) _ (ap (λ bytes. option_map (λ n. 3 + n) (block_len 0 bytes)) (sym (drop-append-le 3 rest tail some.0))
          ∙ sym (block_skip 3 all some.1) ∙ taken ∙ ap Some three);
      three = three;
    }

-- a `\"""` that is read
slash_first : (at b : ℕ) (rest piece : List ℕ) (n : ℕ) → b ≡ 92 → rest ≡ quotes ++ drop 3 rest → character_at Block at (b ∷ rest) ≡ Ok (piece, n)
    → (quotes ≡ piece) × (4 ≡ n)
unfolding character_at
slash_first at b rest piece n is_slash front h =
    let starts : starts_with nat_eq (b ∷ rest) (92 ∷ quotes) ≡ true = ap (λ bytes. starts_with nat_eq bytes (92 ∷ quotes)) (ap (λ k. k ∷ rest) is_slash ∙ ap (λ bytes. 92 ∷ bytes) front) in
    let e = sym (cond-true _ _ (source_at at (b ∷ rest)) starts) ∙ h in
    let same : ◌≡◌ {A = List ℕ × ℕ} (quotes, 4) (piece, n) = cc in
    (ap (λ p. p.0) same, ap (λ p. p.1) same)

-- a byte at which no `\"""` begins stands for itself
block_source : (at b : ℕ) (rest piece : List ℕ) (n : ℕ) → starts_with nat_eq (b ∷ rest) (92 ∷ quotes) ≡ false → character_at Block at (b ∷ rest) ≡ Ok (piece, n)
    → IsTrue (is_source b) × (b ∷ [] ≡ piece) × (1 ≡ n)
unfolding character_at
block_source at b rest piece n other h = source_first at b rest piece n (sym (cond-false _ _ (source_at at (b ∷ rest)) other) ∙ h)

-- what does not begin in a longer text does not in its front
pub not_in_front : (needle front more : List ℕ) → starts_with nat_eq (front ++ more) needle ≡ false → starts_with nat_eq front needle ≡ false
not_in_front needle front more h = false_from_ne_true _ (λ there.
    let long : length needle ≤ length front = omega (arith, ap length (begins needle front there), length-append needle (drop (length needle) front)) in
    false≢true (sym h ∙ starts_local needle front more long ∙ there))

-- nor where a byte of a wide character is first
high_no_quote : (front bytes : List ℕ) → list_all is_high front ≡ true → 0 < length front → starts_with nat_eq (front ++ bytes) quotes ≡ false
high_no_quote [] bytes h some = absurd (omega arith)
high_no_quote (b ∷ front) bytes h some = high_quote b (front ++ bytes) (and_parts (is_high b) (list_all is_high front) h).0

-- no `\"""` begins at a wide character
high_no_slash : (front bytes : List ℕ) → list_all is_high front ≡ true → 0 < length front → starts_with nat_eq (front ++ bytes) (92 ∷ quotes) ≡ false
high_no_slash [] bytes h some = absurd (omega arith)
high_no_slash (b ∷ front) bytes h some = high_slash b (front ++ bytes) (and_parts (is_high b) (list_all is_high front) h).0

-- what is read between the quotes of a block string is of the production
pub block_parts : (m at : ℕ) (inside after raw : List ℕ) → length inside < m → IsReadBlock at inside after raw → TextParts inside → IsBlockRest (inside ++ quotes) raw
block_parts zero at inside after raw h is parts = absurd (omega arith)
block_parts (suc m) at inside after raw h is none = let e : [] ≡ raw = let r = is.read in cc in subst (IsBlockRest quotes) e closed
block_parts (suc m) at inside after raw h is (ascii b rest one utf8) =
    let tail = quotes ++ after in
    let first = inside_block b (length rest) (rest ++ tail) is.ends in
    let step = steps_first (character_at Block) at b rest raw is.read in
    ⊎_elim
    (λ (slash : starts_with nat_eq (b ∷ (rest ++ tail)) (92 ∷ quotes) ≡ true).
    let it = slashed_inside b rest after slash first.1 in
    let read = slash_first at b rest step.piece step.n it.is_slash it.begins step.first in
    let next : IsReadBlock (at + 1 + 3) (drop 3 rest) after step.others = record {
      ends = it.ends;
      utf8 = IsUtf8-behind quotes (drop 3 rest) (IsUtf8-from_ascii quotes quotes_ascii) (subst IsUtf8 it.begins utf8);
      read = sym (steps_skip (character_at Block) 3 (at + 1) rest (omega (arith, it.three)))
          ∙ ap (λ k. steps (character_at Block) (k - 1) (at + 1) rest) read.1 ∙ step.behind;
    } in
    let inner = block_parts m (at + 1 + 3) (drop 3 rest) after step.others (omega (arith, it.three)) next (text_parts (drop 3 rest) next.utf8) in
    let built : IsBlockRest (92 ∷ (quotes ++ (drop 3 rest ++ quotes))) (quotes ++ step.others) = escape (drop 3 rest ++ quotes) step.others inner in
    let text : 92 ∷ (quotes ++ (drop 3 rest ++ quotes)) ≡ b ∷ (rest ++ quotes)
    = ap (λ bytes. 92 ∷ (bytes ++ quotes)) (sym it.begins) ∙ ap (λ k. k ∷ (rest ++ quotes)) (sym it.is_slash) in
    subst (λ t. IsBlockRest t raw) text (subst (IsBlockRest _) (ap (λ front. front ++ step.others) read.0 ∙ step.whole) built))
    (λ (plain : starts_with nat_eq (b ∷ (rest ++ tail)) (92 ∷ quotes) ≡ false).
    let src = block_source at b rest step.piece step.n (not_in_front (92 ∷ quotes) (b ∷ rest) tail plain) step.first in
    let more : block_len 0 (rest ++ tail) ≡ Some (length rest)
    = ap (λ k. block_len (k - 1) (rest ++ tail)) (sym (cond-false (starts_with nat_eq (b ∷ (rest ++ tail)) (92 ∷ quotes)) 4 1 plain)) ∙ first.1 in
    let next : IsReadBlock (at + 1) rest after step.others = record {
      ends = more;
      utf8 = utf8;
      read = ap (λ k. steps (character_at Block) (k - 1) (at + 1) rest) src.2 ∙ step.behind;
    } in
    let inner = block_parts m (at + 1) rest after step.others (omega arith) next (text_parts rest utf8) in
    let same = encode_ascii b one in
    let joined : b ∷ (rest ++ tail) ≡ (encode b ++ (rest ++ quotes)) ++ after
    = ap (λ bytes. b ∷ bytes) (sym (append_assoc rest quotes after)) ∙ ap (λ front. (front ++ (rest ++ quotes)) ++ after) (sym same) in
    let no_quote = not_in_front quotes (encode b ++ (rest ++ quotes)) after (subst (λ bytes. starts_with nat_eq bytes quotes ≡ false) joined first.0) in
    let no_slash = not_in_front (92 ∷ quotes) (encode b ++ (rest ++ quotes)) after (subst (λ bytes. starts_with nat_eq bytes (92 ∷ quotes) ≡ false) joined plain) in
    let built : IsBlockRest (encode b ++ (rest ++ quotes)) (encode b ++ step.others)
    = character b (rest ++ quotes) step.others (low_scalar b (omega arith), src.0) no_quote no_slash inner in
    subst (λ front. IsBlockRest (front ++ (rest ++ quotes)) raw) same
    (subst (IsBlockRest _) (ap (λ front. front ++ step.others) (same ∙ src.1) ∙ step.whole) built))
    (cases_Bool (starts_with nat_eq (b ∷ (rest ++ tail)) (92 ∷ quotes)))
block_parts (suc m) at inside after raw h is (wide c rest scalar more utf8) =
    let high = encode-is_high c more in
    let some = length-encode_some c in
    let cp = copied (character_at Block) copies_block at (encode c) rest raw high is.read in
    let next : IsReadBlock (at + length (encode c)) rest after cp.others = record {
      ends = counted_back (length (encode c)) (length rest) _ (sym (block_len_over (encode c) (rest ++ (quotes ++ after)) high)
          ∙ ap (block_len 0) (sym (append_assoc (encode c) rest (quotes ++ after))) ∙ is.ends ∙ ap Some (length-append (encode c) rest));
      utf8 = utf8;
      read = cp.behind;
    } in
    let shorter : length rest < m = omega (arith, length-append (encode c) rest, some) in
    let inner = block_parts m _ rest after cp.others shorter next (text_parts rest utf8) in
    let built : IsBlockRest (encode c ++ (rest ++ quotes)) (encode c ++ cp.others)
    = character c (rest ++ quotes) cp.others (scalar, wide_source c more) (high_no_quote (encode c) (rest ++ quotes) high some) (high_no_slash (encode c) (rest ++ quotes) high some) inner in
    subst (λ t. IsBlockRest t raw) (sym (append_assoc (encode c) rest quotes)) (subst (IsBlockRest _) cp.whole built)

-- what is between the quotes and behind them
pub record IsClosedBlock (bytes : List ℕ) (n : ℕ) : Type 0 where
  pub after : List ℕ
  pub split : bytes ≡ take n bytes ++ (quotes ++ after)
  pub len : length (take n bytes) ≡ n

-- where the count is zero, the closing quotes are next
block_ends_here : (t : Bool) (o : Option ℕ) → cond t (Some 0) (option_map (λ k. 1 + k) o) ≡ Some 0 → t ≡ true
block_ends_here true o h = refl
block_ends_here false None h = cc
block_ends_here false (Some k) h = let e : 1 + k ≡ 0 = cc in absurd (omega arith)

-- a count without its first byte
one_more : (o : Option ℕ) (n : ℕ) → option_map (λ k. 1 + k) o ≡ Some (suc n) → o ≡ Some n
one_more o n h = counted_back 1 n o (h ∙ ap Some (omega arith))

-- a count with a first byte is not zero
none_is_zero : (o : Option ℕ) → option_map (λ k. 1 + k) o ≡ Some 0 → ⊥
none_is_zero None h = cc
none_is_zero (Some k) h = let e : 1 + k ≡ 0 = cc in omega arith

-- behind what is counted stand the closing quotes
pub block_closed_by : (taken : ℕ) (bytes : List ℕ) (n : ℕ) → block_len taken bytes ≡ Some n → IsClosedBlock bytes n
block_closed_by taken [] n h = cc
block_closed_by (suc taken) (b ∷ bytes) zero h = absurd (none_is_zero (block_len taken bytes) h)
block_closed_by (suc taken) (b ∷ bytes) (suc n) h =
    let is = block_closed_by taken bytes n (one_more (block_len taken bytes) n h) in
    record { after = is.after; split = ap (λ more. b ∷ more) is.split; len = ap suc is.len }
block_closed_by zero (b ∷ bytes) zero h =
    record { after = drop 3 (b ∷ bytes); split = begins quotes (b ∷ bytes) (block_ends_here _ _ h); len = refl }
block_closed_by zero (b ∷ bytes) (suc n) h =
    let first = inside_block b n bytes h in
    let is = block_closed_by (block_step (b ∷ bytes) - 1) bytes n first.1 in
    record { after = is.after; split = ap (λ more. b ∷ more) is.split; len = ap suc is.len }

-- a block string that is read is of the production
pub block_read : (at n : ℕ) (bytes raw : List ℕ) → block_len 0 bytes ≡ Some n → characters Block at (take n bytes) ≡ Ok raw
    → IsBlockRest (take n bytes ++ quotes) raw
block_read at n bytes raw ends read =
    let is = block_closed_by 0 bytes n ends in
    let all = characters_read Block at (take n bytes) raw read in
    let here : IsReadBlock at (take n bytes) is.after raw = record {
      ends = ap (block_len 0) (sym is.split) ∙ ends ∙ ap Some (sym is.len);
      utf8 = all.utf8;
      read = all.read;
    } in
    block_parts (suc (length (take n bytes))) at (take n bytes) is.after raw (omega arith) here (text_parts (take n bytes) all.utf8)

-- quotes are a text
quotes-IsText : IsText quotes
quotes-IsText = IsText-all is_ascii_text (λ b h. h) quotes refl

-- what it holds before it is laid out is a text
pub block-IsText : (text raw : List ℕ) → IsBlockRest text raw → IsText raw
block-IsText text raw closed = IsText-nil
block-IsText text raw (character c behind others ok no_quote no_slash inner) =
    IsText-append (encode c) others (encode-IsText c ok.0 (source_some c ok.1)) (block-IsText behind others inner)
block-IsText text raw (escape behind others inner) = IsText-append quotes others quotes-IsText (block-IsText behind others inner)
