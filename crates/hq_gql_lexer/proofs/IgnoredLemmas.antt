-- What is ignored is of its productions.
use Rattle.std.proofs.Common.{◌≡◌, ℕ, zero, suc, ◌+◌, ◌<◌, ◌≤◌, Bool, true, false, cond, List, [], ◌∷◌, ◌++◌, length, take, drop, Option, Some, None, Result, Ok, Err, refl, sym, ap, ◌∙◌, subst, inl, inr, ⊎_elim, arith, ◌⊎◌}
use Rattle.std.specs.Prelude.{IsTrue, ◌==◌, not, nat_eq, nat_lt}
use Rattle.std.specs.List.{list_all, prefix_len, starts_with}
use Rattle.std.specs.Str.{IsUtf8}
use Rattle.std.specs.Str.Lossy.{utf8_valid_len}
use lib.Utf8.{encode, low_scalar}
use Rattle.std.proofs.lemmas.Bool.{false≢true, eqb-true, ltb-false, cases_lt}
use Rattle.std.proofs.lemmas.List.{length-append, length-take, length-take-le, take_all, drop_all}
use Rattle.std.proofs.lemmas.List.Folds.{list_all-append}
use Rattle.std.proofs.lemmas.List.Sums.{prefix_len-le-length}
use Rattle.std.proofs.lemmas.Str.{encode_ascii}
use Rattle.hq_gql_lexer.specs.declared.refusal.LexRefusal.{LexRefusal}
use Rattle.hq_gql_lexer.specs.Characters.{next_is, is_line_end, is_source}
use Rattle.hq_base.specs.Due.{◌>>=◌}
use Rattle.hq_gql_lexer.specs.Lexemes.{comment_at, byte_order_mark, is_ignored, ignored_at}
use Rattle.hq_gql_lexer.specs.Grammar.{IsCommentRest, nothing, character, IsComment, IsIgnored}
use Rattle.hq_gql_lexer.proofs.TextLemmas.{and_parts}
use Rattle.hq_gql_lexer.proofs.CharacterLemmas.{TextParts, none, ascii, wide, text_parts, length-encode_some}
use Rattle.hq_gql_lexer.proofs.LinesLemmas.{not_end, end_after}
use Rattle.hq_gql_lexer.proofs.NumberLemmas.{all_in_front}
use Rattle.hq_gql_lexer.proofs.EscapeLemmas.{tested}
use Rattle.hq_gql_lexer.proofs.ReadLemmas.{unless, utf8_front}
use Rattle.hq_gql_lexer.proofs.StepsLemmas.{bind_ok}
use Rattle.hq_gql_lexer.proofs.PlainLemmas.{wide_source, wide_no_end}
use Rattle.hq_gql_lexer.proofs.QuotesLemmas.{begins}

-- what is not so is false
not_true : (t : Bool) → not t ≡ true → t ≡ false
not_true true h = absurd (false≢true h)
not_true false h = refl

-- what holds of all bytes holds of the rest
all_parts : (p : ℕ → Bool) (front rest : List ℕ) → list_all p (front ++ rest) ≡ true → list_all p rest ≡ true
all_parts p front rest h = (and_parts (list_all p front) (list_all p rest) (sym (list_all-append p front rest) ∙ h)).1

-- characters that a comment can hold
comment_rest : (m : ℕ) (bytes : List ℕ) → length bytes < m → list_all is_source bytes ≡ true → list_all not_end bytes ≡ true → TextParts bytes → IsCommentRest bytes
comment_rest zero bytes h source inside parts = absurd (omega arith)
comment_rest (suc m) bytes h source inside none = nothing
comment_rest (suc m) bytes h source inside (ascii b rest one utf8) =
    let s = and_parts (is_source b) (list_all is_source rest) source in
    let i = and_parts (not_end b) (list_all not_end rest) inside in
    let inner = comment_rest m rest (omega arith) s.1 i.1 (text_parts rest utf8) in
    let built : IsCommentRest (encode b ++ rest) = character b rest (low_scalar b (omega arith), s.0) (not_true (is_line_end b) i.0) inner in
    subst (λ front. IsCommentRest (front ++ rest)) (encode_ascii b one) built
comment_rest (suc m) bytes h source inside (wide c rest scalar more utf8) =
    let shorter : length rest < m = omega (arith, length-append (encode c) rest, length-encode_some c) in
    let inner = comment_rest m rest shorter (all_parts is_source (encode c) rest source) (all_parts not_end (encode c) rest inside) (text_parts rest utf8) in
    character c rest (scalar, wide_source c more) (wide_no_end c more) inner

-- a comment behind its `#`
pub record IsCommentInFront (bytes : List ℕ) (n : ℕ) : Type 0 where
  pub within : n ≤ length bytes
  pub is_rest : IsCommentRest (take n bytes)
  pub ends : (drop n bytes ≡ []) ⊎ IsTrue (next_is is_line_end (drop n bytes))

-- a test that all bytes pass, by how far they go
all_of_prefix : (p : ℕ → Bool) (bytes : List ℕ) → length bytes ≤ prefix_len p bytes → list_all p bytes ≡ true
all_of_prefix p bytes h = ap (list_all p) (sym (take_all (prefix_len p bytes) bytes h)) ∙ all_in_front p bytes

-- what is taken as a comment is one
comment_sound : (at : ℕ) (bytes : List ℕ) (n : ℕ) → comment_at at bytes ≡ Ok n → IsCommentInFront bytes n
unfolding comment_at
comment_sound at bytes n h =
    let len = prefix_len not_end bytes in
    let text = take len bytes in
    let valid = utf8_valid_len text in
    let good = prefix_len is_source (take valid text) in
    let first = unless_chain (nat_lt good valid) _ _ n h in
    let second = unless (nat_lt valid len) _ len n first.1 in
    let within : len ≤ length bytes = prefix_len-le-length not_end bytes in
    let long : length text ≤ valid = omega (arith, ltb-false valid len second.0, length-take-le len bytes within) in
    let whole : take valid text ≡ text = take_all valid text long in
    let utf8 : IsUtf8 text = subst IsUtf8 whole (utf8_front text) in
    let all_good : length (take valid text) ≤ good = omega (arith, ltb-false good valid first.0, length-take valid text) in
    let source : list_all is_source text ≡ true = subst (λ t. list_all is_source t ≡ true) whole (all_of_prefix is_source (take valid text) all_good) in
    subst (IsCommentInFront bytes) second.1 (record {
      within = within;
      is_rest = comment_rest (suc (length text)) text (omega arith) source (all_in_front not_end bytes) (text_parts text utf8);
      ends = ⊎_elim
          (λ (more : len < length bytes). inr (end_after bytes more))
          (λ (end : length bytes ≤ len). inl (drop_all len bytes end))
          (cases_lt len (length bytes));
    })
  where
    unless_chain : (t : Bool) (e : LexRefusal) (r : Result ℕ LexRefusal) (n : ℕ) → cond t (Err e) r ≡ Ok n → (t ≡ false) × (r ≡ Ok n)
    unless_chain true e r n h = cc
    unless_chain false e r n h = (refl, h)

-- what is ignored at the front
pub record IsIgnoredInFront (bytes : List ℕ) (n : ℕ) : Type 0 where
  pub some : 0 < n
  pub within : n ≤ length bytes
  pub is : IsIgnored (take n bytes) (drop n bytes)

-- white space, a line end and a comma are ignored
one_ignored : (bytes : List ℕ) → next_is is_ignored bytes ≡ true → IsIgnoredInFront bytes 1
one_ignored [] h = absurd (false≢true h)
one_ignored (b ∷ bytes) h = record { some = omega arith; within = omega arith; is = inl (b, refl, h) }

-- a byte order mark is ignored
mark_ignored : (bytes : List ℕ) → starts_with nat_eq bytes byte_order_mark ≡ true → IsIgnoredInFront bytes 3
mark_ignored bytes h =
    let split = begins byte_order_mark bytes h in
    record { some = omega arith; within = omega (arith, ap length split); is = inr (inl (ap (take 3) split)) }

-- a comment is ignored
comment_ignored : (bytes : List ℕ) (n : ℕ) → next_is (λ b. b == 35) bytes ≡ true → IsCommentInFront (drop 1 bytes) n → IsIgnoredInFront bytes (n + 1)
comment_ignored [] n h is = absurd (false≢true h)
comment_ignored (b ∷ bytes) n h is =
    let count : n + 1 ≡ suc n = omega arith in
    let comment : IsComment (take (suc n) (b ∷ bytes)) (drop (suc n) (b ∷ bytes)) = record {
      rest = take n bytes;
      opened = ap (λ k. k ∷ take n bytes) (eqb-true b 35 h);
      is_rest = is.is_rest;
      ends = is.ends;
    } in
    subst (IsIgnoredInFront (b ∷ bytes)) (sym count) (record { some = omega arith; within = omega (arith, is.within); is = inr (inr comment) })

-- equal answers have equal counts
same_count : (n m : ℕ) → ◌≡◌ {A = Result (Option ℕ) LexRefusal} (Ok (Some n)) (Ok (Some m)) → n ≡ m
same_count n m h = cc

-- what is ignored is of the productions
pub ignored_sound : (at : ℕ) (bytes : List ℕ) (n : ℕ) → ignored_at at bytes ≡ Ok (Some n) → IsIgnoredInFront bytes n
unfolding ignored_at
ignored_sound at bytes n h = ⊎_elim
    (λ (hash : (next_is (λ b. b == 35) bytes ≡ true) × ((comment_at (at + 1) (drop 1 bytes) >>= λ m. Ok (Some (m + 1))) ≡ Ok (Some n))).
    bind_ok (comment_at (at + 1) (drop 1 bytes)) _ (Some n) hash.1 (λ m found end.
    subst (IsIgnoredInFront bytes) (same_count (m + 1) n end) (comment_ignored bytes m hash.0 (comment_sound (at + 1) (drop 1 bytes) m found))))
    (λ (other : (next_is (λ b. b == 35) bytes ≡ false) × (cond (starts_with nat_eq bytes byte_order_mark) (Ok (Some 3)) (cond (next_is is_ignored bytes) (Ok (Some 1)) (Ok None)) ≡ Ok (Some n))).
    ⊎_elim
    (λ (mark : (starts_with nat_eq bytes byte_order_mark ≡ true) × (◌≡◌ {A = Result (Option ℕ) LexRefusal} (Ok (Some 3)) (Ok (Some n)))).
    subst (IsIgnoredInFront bytes) (same_count 3 n mark.1) (mark_ignored bytes mark.0))
    (λ (rest : (starts_with nat_eq bytes byte_order_mark ≡ false) × (◌≡◌ {A = Result (Option ℕ) LexRefusal} (cond (next_is is_ignored bytes) (Ok (Some 1)) (Ok None)) (Ok (Some n)))).
    ⊎_elim
    (λ (one : (next_is is_ignored bytes ≡ true) × (◌≡◌ {A = Result (Option ℕ) LexRefusal} (Ok (Some 1)) (Ok (Some n)))).
    subst (IsIgnoredInFront bytes) (same_count 1 n one.1) (one_ignored bytes one.0))
    (λ (none' : (next_is is_ignored bytes ≡ false) × (◌≡◌ {A = Result (Option ℕ) LexRefusal} (Ok None) (Ok (Some n)))). let e = none'.1 in cc)
    (tested (next_is is_ignored bytes) _ _ _ rest.1))
    (tested (starts_with nat_eq bytes byte_order_mark) _ _ _ other.1))
    (tested (next_is (λ b. b == 35) bytes) _ _ _ h)
