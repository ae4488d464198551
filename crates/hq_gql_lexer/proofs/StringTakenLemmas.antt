-- Each string of the productions is taken whole.
use Rattle.std.proofs.Common.{◌≡◌, ℕ, ◌+◌, ◌-◌, ◌<◌, ◌≤◌, true, false, cond, List, [], ◌∷◌, ◌++◌, length, take, Option, Some, None, Result, Ok, Err, refl, sym, ap, ◌∙◌, subst, inl, inr, ⊎_elim, arith, ◌⊎◌, append_assoc, lit<}
use Rattle.std.specs.Prelude.{◌≢◌, ◌==◌, nat_eq, nat_lt}
use Rattle.std.specs.List.{starts_with}
use Rattle.std.specs.Option.{option_map, ok_or}
use Rattle.std.specs.Str.{IsUtf8}
use lib.Utf8.{encode}
use Rattle.std.proofs.lemmas.Bool.{cond-true, cond-false, le-ltb, ne_eqb, eqb-false, cases_lt, and_left}
use Rattle.std.proofs.lemmas.List.{append-nil, length-append, take_at, drop_at, take_all}
use Rattle.std.proofs.lemmas.Str.{encode_ascii, IsUtf8-nil, IsUtf8-append, IsUtf8-encode, IsUtf8-from_ascii, utf8_valid_len-IsUtf8}
use Rattle.std.proofs.lemmas.Str.Ascii.{IsAscii-cons}
use Rattle.hq_base.specs.Due.{◌>>=◌}
use Rattle.hq_gql_lexer.specs.declared.characters.StringKind.{StringKind}
use Rattle.hq_gql_lexer.specs.declared.characters.StringKind.TheVariants.{Plain, Block}
use Rattle.hq_gql_lexer.specs.declared.refusal.LexRefusal.{LexRefusal}
use Rattle.hq_gql_lexer.specs.declared.refusal.LexRefusal.TheVariants.{OpenString, NotUtf8}
use Rattle.hq_gql_lexer.specs.declared.token.TokenKind.TheVariants as kind
use Rattle.hq_gql_lexer.specs.Characters.{next_is, is_line_end, is_source}
use Rattle.hq_gql_lexer.specs.Escapes.{escape_at}
use Rattle.hq_gql_lexer.specs.Steps.{steps}
use Rattle.hq_gql_lexer.specs.Strings.{quotes, plain_len, block_len, escaped, character_at, characters}
use Rattle.hq_gql_lexer.specs.BlockStrings.{block_value}
use Rattle.hq_gql_lexer.specs.Lexemes.{plain_at, block_at, string_at}
use Rattle.hq_gql_lexer.specs.Grammar.{IsPlainRest, IsBlockRest, closed, character, escape, IsPlainString, IsBlockString}
use Rattle.hq_gql_lexer.proofs.CharacterLemmas.{is_high, encode-is_high}
use Rattle.hq_gql_lexer.proofs.StepsLemmas.{with_front, steps_one, Copies, copy_all}
use Rattle.hq_gql_lexer.proofs.EscapeLemmas.{IsInner, plain_len_inner, plain_len_over, escape_shape}
use Rattle.hq_gql_lexer.proofs.PlainLemmas.{high_inner, copies_plain, inside_first}
use Rattle.hq_gql_lexer.proofs.QuotesLemmas.{starts_local, not_in_front, quotes_ascii, copies_block, block_len_over}

-- a count behind a front is that of both
counted_on : (k n m : ℕ) (o : Option ℕ) → o ≡ Some n → k + n ≡ m → option_map (λ i. k + i) o ≡ Some m
counted_on k n m o h e = ap (option_map (λ i. k + i)) h ∙ ap Some e

-- what is read behind a front stands behind it
read_on : (front others : List ℕ) (r : Result (List ℕ) LexRefusal) → r ≡ Ok others → with_front front r ≡ Ok (front ++ others)
read_on front others r h = ap (with_front front) h

-- a character that stands for itself is copied
character_copied : (string_kind : StringKind) → Copies (character_at string_kind) → (at c : ℕ) (bytes others : List ℕ)
    → (c < 128 → character_at string_kind at (c ∷ bytes) ≡ Ok (c ∷ [], 1))
    → ((at' : ℕ) → steps (character_at string_kind) 0 at' bytes ≡ Ok others) → steps (character_at string_kind) 0 at (encode c ++ bytes) ≡ Ok (encode c ++ others)
character_copied string_kind copies at c bytes others self behind = ⊎_elim
    (λ (one : c < 128).
    subst (λ front. steps (character_at string_kind) 0 at (front ++ bytes) ≡ Ok (front ++ others)) (sym (encode_ascii c one))
    (steps_one (character_at string_kind) at (c ∷ bytes) (c ∷ []) 1 (self one) (omega arith) (omega arith) ∙ read_on (c ∷ []) others _ (behind (at + 1))))
    (λ (more : 128 ≤ c).
    copy_all (character_at string_kind) copies at (encode c) bytes (encode-is_high c more) ∙ read_on (encode c) others _ (behind (at + length (encode c))))
    (cases_lt c 128)

-- where all bytes are UTF-8 and the steps read them, they are read
characters_taken : (string_kind : StringKind) (at : ℕ) (bytes value : List ℕ) → IsUtf8 bytes → steps (character_at string_kind) 0 at bytes ≡ Ok value → characters string_kind at bytes ≡ Ok value
unfolding characters
characters_taken string_kind at bytes value utf8 read =
    let n = length bytes in
    ap (λ valid. steps (character_at string_kind) 0 at (take valid bytes) >>= λ v. cond (nat_lt valid n) (Err (NotUtf8 (at + valid))) (Ok v)) (utf8_valid_len-IsUtf8 bytes utf8)
    ∙ ap (λ bs. steps (character_at string_kind) 0 at bs >>= λ v. cond (nat_lt n n) (Err (NotUtf8 (at + n))) (Ok v)) (take_all n bytes (omega arith))
    ∙ ap (λ r. r >>= λ v. cond (nat_lt n n) (Err (NotUtf8 (at + n))) (Ok v)) read
    ∙ cond-false _ _ _ (le-ltb n n (omega arith))

-- what stands between the quotes of a plain string, and its value
record IsPlainInner (text value : List ℕ) : Type 0 where
  inner : List ℕ
  split : text ≡ inner ++ 34 ∷ []
  ends : (after : List ℕ) → plain_len false (inner ++ 34 ∷ after) ≡ Some (length inner)
  utf8 : IsUtf8 inner
  read : (at : ℕ) → steps (character_at Plain) 0 at inner ≡ Ok value

-- a character is passed over that is no quote, no `\` and no line end
passed_over : (c : ℕ) (bytes : List ℕ) → c ≢ 34 → c ≢ 92 → is_line_end c ≡ false → plain_len false (encode c ++ bytes) ≡ option_map (λ n. length (encode c) + n) (plain_len false bytes)
passed_over c bytes no_quote no_slash no_end = ⊎_elim
    (λ (one : c < 128).
    let is : IsInner c = record { no_end = no_end; no_quote = ne_eqb c 34 no_quote; no_slash = ne_eqb c 92 no_slash } in
    subst (λ front. plain_len false (front ++ bytes) ≡ option_map (λ n. length front + n) (plain_len false bytes)) (sym (encode_ascii c one)) (plain_len_inner c bytes is))
    (λ (more : 128 ≤ c). plain_len_over is_high high_inner (encode c) bytes (encode-is_high c more))
    (cases_lt c 128)

-- a byte that is no `\` stands for itself in a plain string
plain_self : (at c : ℕ) (bytes : List ℕ) → c ≢ 92 → is_source c ≡ true → character_at Plain at (c ∷ bytes) ≡ Ok (c ∷ [], 1)
unfolding character_at
plain_self at c bytes no_slash source = cond-false (c == 92) _ _ (ne_eqb c 92 no_slash) ∙ cond-true (is_source c) _ _ source

-- an escape stands for its character
plain_escaped : (at c n : ℕ) (bytes : List ℕ) → escape_at (92 ∷ bytes) ≡ Some (c, n) → character_at Plain at (92 ∷ bytes) ≡ Ok (encode c, n)
unfolding character_at
plain_escaped at c n bytes h = ap (escaped at) h

-- each plain string of the production has such an inner part
plain_inner : (text value : List ℕ) → IsPlainRest text value → IsPlainInner text value
plain_inner text value closed = record { inner = []; split = refl; ends = λ after. refl; utf8 = IsUtf8-nil; read = λ at. refl }
plain_inner text value (character c behind others ok no_quote no_slash no_end more) =
    let is = plain_inner behind others more in
    record {
      inner = encode c ++ is.inner;
      split = ap (λ t. encode c ++ t) is.split ∙ sym (append_assoc (encode c) is.inner (34 ∷ []));
      ends = λ after. ap (plain_len false) (append_assoc (encode c) is.inner (34 ∷ after)) ∙ passed_over c (is.inner ++ 34 ∷ after) no_quote no_slash no_end
          ∙ counted_on (length (encode c)) (length is.inner) _ _ (is.ends after) (sym (length-append (encode c) is.inner));
      utf8 = IsUtf8-append (encode c) is.inner (IsUtf8-encode c ok.0) is.utf8;
      read = λ at. character_copied Plain copies_plain at c is.inner others (λ one. plain_self at c is.inner no_slash ok.1) is.read;
    }
plain_inner text value (escape c behind rest others alone more) =
    let is = plain_inner rest others more in
    let n = length (92 ∷ behind) in
    let shape = escape_shape behind c n alone in
    let len : length shape.rest ≡ 0 = omega (arith, shape.count, ap length shape.split, length-append shape.behind shape.rest) in
    let same : behind ≡ shape.behind = shape.split ∙ ap (λ r. shape.behind ++ r) (no_bytes shape.rest len) ∙ append-nil shape.behind in
    let passes : (tail : List ℕ) → plain_len true (behind ++ tail) ≡ option_map (λ k. length behind + k) (plain_len false tail)
    = λ tail. subst (λ b. plain_len true (b ++ tail) ≡ option_map (λ k. length b + k) (plain_len false tail)) (sym same) (shape.passes tail) in
    let found : escape_at (92 ∷ (behind ++ is.inner)) ≡ Some (c, n)
    = subst (λ b. escape_at (92 ∷ (b ++ is.inner)) ≡ Some (c, length (92 ∷ b))) (sym same) (shape.anywhere is.inner) in
    record {
      inner = 92 ∷ (behind ++ is.inner);
      split = ap (λ t. 92 ∷ (behind ++ t)) is.split ∙ ap (λ t. 92 ∷ t) (sym (append_assoc behind is.inner (34 ∷ [])));
      ends = λ after. ap (λ t. option_map (λ k. 1 + k) (plain_len true t)) (append_assoc behind is.inner (34 ∷ after))
          ∙ ap (option_map (λ k. 1 + k)) (passes (is.inner ++ 34 ∷ after) ∙ counted_on (length behind) (length is.inner) _ _ (is.ends after) refl)
          ∙ ap Some (omega (arith, length-append behind is.inner));
      utf8 = subst (λ b. IsUtf8 (92 ∷ (b ++ is.inner))) (sym same)
          (IsUtf8-append (92 ∷ shape.behind) is.inner (IsUtf8-from_ascii (92 ∷ shape.behind) (IsAscii-cons 92 shape.behind (lit< tt) shape.is_ascii)) is.utf8);
      read = λ at. steps_one (character_at Plain) at (92 ∷ (behind ++ is.inner)) (encode c) n (plain_escaped at c n (behind ++ is.inner) found) (omega arith)
          (omega (arith, length-append behind is.inner))
          ∙ read_on (encode c) others _ (ap (steps (character_at Plain) 0 (at + n)) (drop_at (92 ∷ behind) is.inner n refl) ∙ is.read (at + n));
    }
  where
    no_bytes : (bytes : List ℕ) → length bytes ≡ 0 → bytes ≡ []
    no_bytes [] h = refl
    no_bytes (b ∷ bytes) h = absurd (omega arith)

-- what is found is its place
found_at : {A : Type 0} (o : Option A) (e : LexRefusal) (x : A) → o ≡ Some x → ok_or o e ≡ Ok x
found_at o e x h = ap (λ p. ok_or p e) h

-- a plain string is taken whole, by its inner part
plain_taken : (at : ℕ) (inner next value : List ℕ) → plain_len false (inner ++ 34 ∷ next) ≡ Some (length inner) → characters Plain (at + 1) inner ≡ Ok value
    → plain_at at (34 ∷ (inner ++ 34 ∷ next)) ≡ Ok (kind.Str value, length inner + 2)
unfolding plain_at
plain_taken at inner next value ends chars =
    let more = inner ++ 34 ∷ next in
    ap (λ r. r >>= λ n. characters Plain (at + 1) (take n more) >>= λ v. Ok (kind.Str v, n + 2)) (found_at _ (OpenString at) (length inner) ends)
    ∙ ap (λ t. characters Plain (at + 1) t >>= λ v. Ok (kind.Str v, length inner + 2)) (take_at inner (34 ∷ next) (length inner) refl)
    ∙ ap (λ r. r >>= λ v. Ok (kind.Str v, length inner + 2)) chars

-- two quotes in front that no third follows
two_quotes : (next : List ℕ) → next_is (λ b. b == 34) next ≡ false → starts_with nat_eq (34 ∷ 34 ∷ next) quotes ≡ false
two_quotes [] h = refl
two_quotes (b ∷ next) h = and_left (nat_eq 34 b) _ (ne_eqb 34 b (λ e. eqb-false b 34 h (sym e)))

-- a plain string opens no block string
no_block : (inner next : List ℕ) → plain_len false (inner ++ 34 ∷ next) ≡ Some (length inner) → (inner ≡ [] → next_is (λ b. b == 34) next ≡ false)
    → starts_with nat_eq (34 ∷ (inner ++ 34 ∷ next)) quotes ≡ false
no_block [] next ends alone = two_quotes next (alone refl)
no_block (b ∷ inner) next ends alone =
    let first = inside_first b (length inner) (inner ++ 34 ∷ next) ends in
    and_left (nat_eq 34 b) _ (ne_eqb 34 b (λ e. eqb-false b 34 first.no_quote (sym e)))

-- what stands between the quotes of a block string, and its value before its lines are laid out
record IsBlockInner (text raw : List ℕ) : Type 0 where
  inner : List ℕ
  split : text ≡ inner ++ quotes
  ends : (after : List ℕ) → block_len 0 (inner ++ (quotes ++ after)) ≡ Some (length inner)
  utf8 : IsUtf8 inner
  read : (at : ℕ) → steps (character_at Block) 0 at inner ≡ Ok raw

-- a byte at which neither `"""` nor `\"""` begins is passed over
block_passed : (b : ℕ) (bytes : List ℕ) → starts_with nat_eq (b ∷ bytes) quotes ≡ false → starts_with nat_eq (b ∷ bytes) (92 ∷ quotes) ≡ false
    → block_len 0 (b ∷ bytes) ≡ option_map (λ n. 1 + n) (block_len 0 bytes)
block_passed b bytes no_quotes no_slash =
    cond-false _ (Some 0) _ no_quotes ∙ ap (λ k. option_map (λ n. 1 + n) (block_len (k - 1) bytes)) (cond-false _ 4 1 no_slash)

-- a byte at which no `\"""` begins stands for itself in a block string
block_self : (at c : ℕ) (bytes : List ℕ) → starts_with nat_eq (c ∷ bytes) (92 ∷ quotes) ≡ false → is_source c ≡ true → character_at Block at (c ∷ bytes) ≡ Ok (c ∷ [], 1)
unfolding character_at
block_self at c bytes no_slash source = cond-false _ _ _ no_slash ∙ cond-true (is_source c) _ _ source

-- the closing quotes stay where they are behind a character of the production
block_over : (c : ℕ) (inner after : List ℕ) → starts_with nat_eq (encode c ++ (inner ++ quotes)) quotes ≡ false
    → starts_with nat_eq (encode c ++ (inner ++ quotes)) (92 ∷ quotes) ≡ false
    → block_len 0 (encode c ++ (inner ++ (quotes ++ after))) ≡ option_map (λ n. length (encode c) + n) (block_len 0 (inner ++ (quotes ++ after)))
block_over c inner after no_quotes no_slash = ⊎_elim
    (λ (one : c < 128).
    let same = encode_ascii c one in
    let text = c ∷ (inner ++ quotes) in
    let here : starts_with nat_eq text quotes ≡ false = subst (λ front. starts_with nat_eq (front ++ (inner ++ quotes)) quotes ≡ false) same no_quotes in
    let slash : starts_with nat_eq text (92 ∷ quotes) ≡ false = subst (λ front. starts_with nat_eq (front ++ (inner ++ quotes)) (92 ∷ quotes) ≡ false) same no_slash in
    let longer : text ++ after ≡ c ∷ (inner ++ (quotes ++ after)) = ap (λ t. c ∷ t) (append_assoc inner quotes after) in
    let on = λ (needle : List ℕ) (within : length needle ≤ length text) (h : starts_with nat_eq text needle ≡ false).
    ap (λ t. starts_with nat_eq t needle) (sym longer) ∙ starts_local needle text after within ∙ h in
    subst (λ front. block_len 0 (front ++ (inner ++ (quotes ++ after))) ≡ option_map (λ n. length front + n) (block_len 0 (inner ++ (quotes ++ after)))) (sym same)
    (block_passed c (inner ++ (quotes ++ after)) (on quotes (omega (arith, length-append inner quotes)) here) (on (92 ∷ quotes) (omega (arith, length-append inner quotes)) slash)))
    (λ (more : 128 ≤ c). block_len_over (encode c) (inner ++ (quotes ++ after)) (encode-is_high c more))
    (cases_lt c 128)

-- a `\"""` is passed over
slash_over : (bytes : List ℕ) → block_len 0 (92 ∷ (quotes ++ bytes)) ≡ option_map (λ n. 4 + n) (block_len 0 bytes)
slash_over bytes = three (block_len 0 bytes)
  where
    three : (o : Option ℕ) → option_map (λ k. 1 + k) (option_map (λ k. 1 + k) (option_map (λ k. 1 + k) (option_map (λ k. 1 + k) o))) ≡ option_map (λ n. 4 + n) o
    three None = refl
    three (Some n) = ap Some (omega arith)

-- a `\"""` stands for three quotes
slash_read : (at : ℕ) (bytes : List ℕ) → character_at Block at (92 ∷ (quotes ++ bytes)) ≡ Ok (quotes, 4)
unfolding character_at
slash_read at bytes = refl

-- each block string of the production has such an inner part
block_inner : (text raw : List ℕ) → IsBlockRest text raw → IsBlockInner text raw
block_inner text raw closed = record { inner = []; split = refl; ends = λ after. refl; utf8 = IsUtf8-nil; read = λ at. refl }
block_inner text raw (character c behind others ok no_quotes no_slash more) =
    let is = block_inner behind others more in
    let quotes_none = subst (λ t. starts_with nat_eq (encode c ++ t) quotes ≡ false) is.split no_quotes in
    let slash_none = subst (λ t. starts_with nat_eq (encode c ++ t) (92 ∷ quotes) ≡ false) is.split no_slash in
    record {
      inner = encode c ++ is.inner;
      split = ap (λ t. encode c ++ t) is.split ∙ sym (append_assoc (encode c) is.inner quotes);
      ends = λ after. ap (block_len 0) (append_assoc (encode c) is.inner (quotes ++ after)) ∙ block_over c is.inner after quotes_none slash_none
          ∙ counted_on (length (encode c)) (length is.inner) _ _ (is.ends after) (sym (length-append (encode c) is.inner));
      utf8 = IsUtf8-append (encode c) is.inner (IsUtf8-encode c ok.0) is.utf8;
      read = λ at. character_copied Block copies_block at c is.inner others (λ one. block_self at c is.inner (slash_alone c is.inner one slash_none) ok.1) is.read;
    }
  where
    slash_alone : (c : ℕ) (inner : List ℕ) → c < 128 → starts_with nat_eq (encode c ++ (inner ++ quotes)) (92 ∷ quotes) ≡ false → starts_with nat_eq (c ∷ inner) (92 ∷ quotes) ≡ false
    slash_alone c inner one h = not_in_front (92 ∷ quotes) (c ∷ inner) quotes
        (subst (λ front. starts_with nat_eq (front ++ (inner ++ quotes)) (92 ∷ quotes) ≡ false) (encode_ascii c one) h)
block_inner text raw (escape rest others more) =
    let is = block_inner rest others more in
    record {
      inner = 92 ∷ (quotes ++ is.inner);
      split = ap (λ t. 92 ∷ (quotes ++ t)) is.split;
      ends = λ after. slash_over (is.inner ++ (quotes ++ after)) ∙ counted_on 4 (length is.inner) _ _ (is.ends after) (omega arith);
      utf8 = IsUtf8-append (92 ∷ quotes) is.inner (IsUtf8-from_ascii (92 ∷ quotes) (IsAscii-cons 92 quotes (lit< tt) quotes_ascii)) is.utf8;
      read = λ at. steps_one (character_at Block) at (92 ∷ (quotes ++ is.inner)) quotes 4 (slash_read at is.inner) (omega arith) (omega arith)
          ∙ read_on quotes others _ (is.read (at + 4));
    }

-- a block string is taken whole, by its inner part
block_taken : (at : ℕ) (inner next raw : List ℕ) → block_len 0 (inner ++ (quotes ++ next)) ≡ Some (length inner) → characters Block (at + 3) inner ≡ Ok raw
    → block_at at (quotes ++ (inner ++ (quotes ++ next))) ≡ Ok (kind.Str (block_value raw), length inner + 6)
unfolding block_at
block_taken at inner next raw ends chars =
    let more = inner ++ (quotes ++ next) in
    ap (λ r. r >>= λ n. characters Block (at + 3) (take n more) >>= λ v. Ok (kind.Str (block_value v), n + 6)) (found_at _ (OpenString at) (length inner) ends)
    ∙ ap (λ t. characters Block (at + 3) t >>= λ v. Ok (kind.Str (block_value v), length inner + 6)) (take_at inner (quotes ++ next) (length inner) refl)
    ∙ ap (λ r. r >>= λ v. Ok (kind.Str (block_value v), length inner + 6)) chars

-- a string in one quote is taken whole
plain_string_taken : (at : ℕ) (rest next value : List ℕ) → IsPlainRest rest value → (rest ≡ 34 ∷ [] → next_is (λ b. b == 34) next ≡ false)
    → string_at at (34 ∷ (rest ++ next)) ≡ Ok (kind.Str value, length (34 ∷ rest))
unfolding string_at
plain_string_taken at rest next value is_rest alone =
    let is = plain_inner rest value is_rest in
    let ends = is.ends next in
    let split : rest ++ next ≡ is.inner ++ 34 ∷ next = ap (λ t. t ++ next) is.split ∙ append_assoc is.inner (34 ∷ []) next in
    let chars = characters_taken Plain (at + 1) is.inner value is.utf8 (is.read (at + 1)) in
    let open' = no_block is.inner next ends (λ empty. alone (is.split ∙ ap (λ t. t ++ 34 ∷ []) empty)) in
    let count : length is.inner + 2 ≡ length (34 ∷ rest) = omega (arith, ap length is.split, length-append is.inner (34 ∷ [])) in
    subst (λ t. cond (starts_with nat_eq (34 ∷ t) quotes) (block_at at (34 ∷ t)) (plain_at at (34 ∷ t)) ≡ Ok (kind.Str value, length (34 ∷ rest))) (sym split)
    (cond-false _ _ _ open' ∙ plain_taken at is.inner next value ends chars ∙ ap (λ n. Ok (kind.Str value, n)) count)

-- a string in three quotes is taken whole
block_string_taken : (at : ℕ) (rest next raw : List ℕ) → IsBlockRest rest raw
    → string_at at (quotes ++ (rest ++ next)) ≡ Ok (kind.Str (block_value raw), length (quotes ++ rest))
unfolding string_at
block_string_taken at rest next raw is_rest =
    let is = block_inner rest raw is_rest in
    let split : rest ++ next ≡ is.inner ++ (quotes ++ next) = ap (λ t. t ++ next) is.split ∙ append_assoc is.inner quotes next in
    let chars = characters_taken Block (at + 3) is.inner raw is.utf8 (is.read (at + 3)) in
    let count : length is.inner + 6 ≡ length (quotes ++ rest) = omega (arith, ap length is.split, length-append is.inner quotes) in
    subst (λ t. block_at at (quotes ++ t) ≡ Ok (kind.Str (block_value raw), length (quotes ++ rest))) (sym split)
    (block_taken at is.inner next raw (is.ends next) chars ∙ ap (λ n. Ok (kind.Str (block_value raw), n)) count)

-- a string of the productions begins with a quote, and is taken whole
pub string_taken : (at : ℕ) (text next value : List ℕ) → IsPlainString text next value ⊎ IsBlockString text value
    → (rest : List ℕ) × (text ≡ 34 ∷ rest) × (string_at at (text ++ next) ≡ Ok (kind.Str value, length text))
string_taken at text next value (inl is) = (
  is.rest,
  is.opened,
  subst (λ t. string_at at (t ++ next) ≡ Ok (kind.Str value, length t)) (sym is.opened)
      (plain_string_taken at is.rest next value is.is_rest is.not_block),
)
string_taken at text next value (inr is) = (
  34 ∷ 34 ∷ is.rest,
  is.opened,
  subst (λ t. string_at at (t ++ next) ≡ Ok (kind.Str value, length t)) (sym is.opened)
      (block_string_taken at is.rest next is.raw is.is_rest ∙ ap (λ v. Ok (kind.Str v, length (quotes ++ is.rest))) (sym is.laid_out)),
)
