-- What the productions allow to be ignored is passed over whole.
use Rattle.std.proofs.Common.{◌≡◌, ℕ, suc, ◌+◌, ◌<◌, ◌≤◌, Bool, true, false, cond, List, [], ◌∷◌, ◌++◌, length, take, Some, Result, Ok, Err, refl, sym, ap, ◌∙◌, subst, inl, inr, ⊎_elim, arith, ◌⊎◌}
use Rattle.std.specs.Prelude.{IsTrue, ◌==◌, nat_eq, nat_lt}
use Rattle.std.specs.List.{list_all, prefix_len, starts_with}
use Rattle.std.specs.Str.{IsUtf8}
use Rattle.std.specs.Str.Lossy.{utf8_valid_len}
use lib.Utf8.{encode}
use Rattle.std.proofs.lemmas.Bool.{cond-true, cond-false, eqb-false, ne_eqb, le-ltb, cases_lt, and_from, and_left, not_from_true, not_from_false}
use Rattle.std.proofs.lemmas.List.{append-nil, take_at, take_all}
use Rattle.std.proofs.lemmas.List.Folds.{list_all-append}
use Rattle.std.proofs.lemmas.Str.{encode_ascii, IsUtf8-nil, IsUtf8-append, IsUtf8-encode, utf8_valid_len-IsUtf8}
use Rattle.hq_base.specs.Due.{◌>>=◌}
use Rattle.hq_gql_lexer.specs.declared.refusal.LexRefusal.{LexRefusal}
use Rattle.hq_gql_lexer.specs.declared.refusal.LexRefusal.TheVariants.{BadByte, NotUtf8}
use Rattle.hq_gql_lexer.specs.Characters.{next_is, is_line_end, is_source}
use Rattle.hq_gql_lexer.specs.Lexemes.{comment_at, byte_order_mark, is_ignored, ignored_at}
use Rattle.hq_gql_lexer.specs.Grammar.{IsCommentRest, nothing, character, IsIgnored}
use Rattle.hq_gql_lexer.proofs.TextLemmas.{and_parts}
use Rattle.hq_gql_lexer.proofs.CharacterLemmas.{is_high, encode-is_high}
use Rattle.hq_gql_lexer.proofs.LinesLemmas.{not_end}
use Rattle.hq_gql_lexer.proofs.PlainLemmas.{high_inner, high_source}
use Rattle.hq_gql_lexer.proofs.NumberTakenLemmas.{prefix_whole, other_byte}

-- bytes that pass a test pass each test that is weaker
all_weaker : (p q : ℕ → Bool) → ((b : ℕ) → p b ≡ true → q b ≡ true) → (bytes : List ℕ) → list_all p bytes ≡ true → list_all q bytes ≡ true
all_weaker p q weaker [] h = refl
all_weaker p q weaker (b ∷ bytes) h =
    let ok = and_parts (p b) (list_all p bytes) h in
    and_from _ _ (weaker b ok.0) (all_weaker p q weaker bytes ok.1)

-- the bytes of a character pass a test that it passes itself, and each byte of 128 and more
encode_passes : (p : ℕ → Bool) (c : ℕ) → ((b : ℕ) → is_high b ≡ true → p b ≡ true) → p c ≡ true → list_all p (encode c) ≡ true
encode_passes p c high h = ⊎_elim
    (λ (one : c < 128). subst (λ bytes. list_all p bytes ≡ true) (sym (encode_ascii c one)) (and_from _ _ h refl))
    (λ (more : 128 ≤ c). all_weaker is_high p high (encode c) (encode-is_high c more))
    (cases_lt c 128)

-- a byte of 128 and more ends no line
high_not_end : (b : ℕ) → is_high b ≡ true → not_end b ≡ true
high_not_end b h = not_from_false (is_line_end b) (high_inner b h).no_end

-- what a comment holds
record IsCommentText (text : List ℕ) : Type 0 where
  source : list_all is_source text ≡ true
  inside : list_all not_end text ≡ true
  utf8 : IsUtf8 text

-- each comment of the production holds so
comment_text : (text : List ℕ) → IsCommentRest text → IsCommentText text
comment_text text nothing = record { source = refl; inside = refl; utf8 = IsUtf8-nil }
comment_text text (character c rest ok no_end more) =
    let inner = comment_text rest more in
    record {
      source = list_all-append is_source (encode c) rest ∙ and_from _ _ (encode_passes is_source c high_source ok.1) inner.source;
      inside = list_all-append not_end (encode c) rest
          ∙ and_from _ _ (encode_passes not_end c high_not_end (not_from_false (is_line_end c) no_end)) inner.inside;
      utf8 = IsUtf8-append (encode c) rest (IsUtf8-encode c ok.0) inner.utf8;
    }

-- a line ends where a line end is next, or nothing
line_stops : (next : List ℕ) → (next ≡ []) ⊎ IsTrue (next_is is_line_end next) → next_is not_end next ≡ false
line_stops [] h = refl
line_stops (b ∷ next) (inl none) = cc
line_stops (b ∷ next) (inr h) = not_from_true (is_line_end b) h

-- what a comment is answered with, by how many of its bytes are UTF-8 and how many it can hold
abbrev by_counts : (at n valid good : ℕ) → Result ℕ LexRefusal
by_counts at n valid good = cond (nat_lt good valid) (Err (BadByte (at + good))) (cond (nat_lt valid n) (Err (NotUtf8 (at + valid))) (Ok n))

-- the same, by its bytes
abbrev by_bytes : (at n : ℕ) → List ℕ → Result ℕ LexRefusal
by_bytes at n text = by_counts at n (utf8_valid_len text) (prefix_len is_source (take (utf8_valid_len text) text))

-- a comment is passed over whole
comment_taken : (at : ℕ) (text next : List ℕ) → IsCommentText text → (next ≡ []) ⊎ IsTrue (next_is is_line_end next)
    → comment_at at (text ++ next) ≡ Ok (length text)
unfolding comment_at
comment_taken at text next is ends =
    let n = length text in
    let good : prefix_len is_source text ≡ n
    = ap (prefix_len is_source) (sym (append-nil text)) ∙ prefix_whole is_source text [] is.source refl in
    let none : nat_lt n n ≡ false = le-ltb n n (omega arith) in
    ap (λ k. by_bytes at k (take k (text ++ next))) (prefix_whole not_end text next is.inside (line_stops next ends))
    ∙ ap (by_bytes at n) (take_at text next n refl)
    ∙ ap (λ valid. by_counts at n valid (prefix_len is_source (take valid text))) (utf8_valid_len-IsUtf8 text is.utf8)
    ∙ ap (λ t. by_counts at n n (prefix_len is_source t)) (take_all n text (omega arith))
    ∙ ap (by_counts at n n) good
    ∙ cond-false _ _ _ none ∙ cond-false _ _ _ none

-- bytes that begin with another byte than some others do not begin with those
pub no_start : (n b : ℕ) (needle bytes : List ℕ) → (b == n) ≡ false → starts_with nat_eq (b ∷ bytes) (n ∷ needle) ≡ false
no_start n b needle bytes h = and_left (nat_eq n b) _ (ne_eqb n b (λ e. eqb-false b n h (sym e)))

-- white space, a line end or a comma is passed over
one_taken : (at b : ℕ) (next : List ℕ) → is_ignored b ≡ true → ignored_at at (b ∷ next) ≡ Ok (Some 1)
unfolding ignored_at
one_taken at b next h =
    cond-false (b == 35) _ _ (other_byte is_ignored b 35 refl h)
    ∙ cond-false _ _ _ (no_start 0xEF b (0xBB ∷ 0xBF ∷ []) next (other_byte is_ignored b 0xEF refl h))
    ∙ cond-true (is_ignored b) _ _ h

-- a byte order mark is passed over
mark_taken : (at : ℕ) (next : List ℕ) → ignored_at at (byte_order_mark ++ next) ≡ Ok (Some 3)
unfolding ignored_at
mark_taken at next = refl

-- a comment is passed over with its `#`
hash_taken : (at : ℕ) (rest next : List ℕ) → comment_at (at + 1) (rest ++ next) ≡ Ok (length rest) → ignored_at at (35 ∷ (rest ++ next)) ≡ Ok (Some (suc (length rest)))
unfolding ignored_at
hash_taken at rest next h = ap (λ r. r >>= λ n. Ok (Some (n + 1))) h ∙ ap (λ n. Ok (Some n)) (omega arith)

-- what is ignored is passed over whole
pub ignored_taken : (at : ℕ) (text next : List ℕ) → IsIgnored text next → ignored_at at (text ++ next) ≡ Ok (Some (length text))
ignored_taken at text next (inl (b, one, is)) =
    subst (λ t. ignored_at at (t ++ next) ≡ Ok (Some (length t))) (sym one) (one_taken at b next is)
ignored_taken at text next (inr (inl mark)) =
    subst (λ t. ignored_at at (t ++ next) ≡ Ok (Some (length t))) (sym mark) (mark_taken at next)
ignored_taken at text next (inr (inr comment)) =
    subst (λ t. ignored_at at (t ++ next) ≡ Ok (Some (length t))) (sym comment.opened)
    (hash_taken at comment.rest next (comment_taken (at + 1) comment.rest next (comment_text comment.rest comment.is_rest) comment.ends))

-- it has a byte
pub ignored_some : (text next : List ℕ) → IsIgnored text next → 0 < length text
ignored_some text next (inl (b, one, is)) = omega (arith, ap length one)
ignored_some text next (inr (inl mark)) = omega (arith, ap length mark)
ignored_some text next (inr (inr comment)) = omega (arith, ap length comment.opened)
