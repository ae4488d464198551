-- Strings are of their productions.
use Rattle.std.proofs.Common.{◌≡◌, ℕ, ◌+◌, true, false, List, [], ◌∷◌, ◌++◌, length, take, drop, Option, Some, None, Ok, refl, sym, ap, ◌∙◌, subst, inl, inr, ⊎_elim, arith, append_assoc}
use Rattle.std.specs.Prelude.{◌==◌, nat_eq}
use Rattle.std.specs.List.{starts_with}
use Rattle.std.specs.Option.{ok_or}
use Rattle.std.proofs.lemmas.Bool.{false≢true, eqb-true, false_from_ne_true}
use Rattle.std.proofs.lemmas.List.{length-append, take_at, drop_at}
use Rattle.hq_gql_lexer.specs.declared.refusal.LexRefusal.{LexRefusal}
use Rattle.hq_gql_lexer.specs.declared.refusal.LexRefusal.TheVariants.{OpenString}
use Rattle.hq_gql_lexer.specs.declared.characters.StringKind.TheVariants.{Plain, Block}
use Rattle.hq_gql_lexer.specs.declared.token.TokenKind.{TokenKind}
use Rattle.hq_gql_lexer.specs.declared.token.TokenKind.TheVariants as kind
use Rattle.hq_gql_lexer.specs.Characters.{next_is}
use Rattle.hq_gql_lexer.specs.Strings.{quotes, plain_len, block_len, characters}
use Rattle.hq_gql_lexer.specs.BlockStrings.{block_value}
use Rattle.hq_gql_lexer.specs.Lexemes.{plain_at, block_at, string_at}
use Rattle.hq_gql_lexer.specs.Grammar.{IsPlainString, IsBlockString}
use Rattle.hq_gql_lexer.proofs.StepsLemmas.{bind_ok}
use Rattle.hq_gql_lexer.proofs.EscapeLemmas.{tested}
use Rattle.hq_gql_lexer.proofs.PlainLemmas.{plain_read, closed_by}
use Rattle.hq_gql_lexer.proofs.QuotesLemmas.{begins, block_read, block_closed_by}
use Rattle.hq_gql_lexer.proofs.TokenLemmas.{IsTokenInFront, same_token}

-- where there is an answer, something was found
found_ok : {A : Type 0} (o : Option A) (e : LexRefusal) (x : A) → ok_or o e ≡ Ok x → o ≡ Some x
found_ok None e x h = cc
found_ok (Some y) e x h = let same : y ≡ x = cc in ap Some same

-- a string in one quote
quote_first : (bytes : List ℕ) → next_is (λ b. b == 34) bytes ≡ true → bytes ≡ 34 ∷ drop 1 bytes
quote_first [] h = absurd (false≢true h)
quote_first (b ∷ bytes) h = ap (λ k. k ∷ bytes) (eqb-true b 34 h)

-- the front of a text that is split, and what is behind it
front_of : (bytes front rest : List ℕ) (n : ℕ) → bytes ≡ front ++ rest → length front ≡ n → (take n bytes ≡ front) × (drop n bytes ≡ rest)
front_of bytes front rest n split len = (ap (take n) split ∙ take_at front rest n len, ap (drop n) split ∙ drop_at front rest n len)

-- an empty string before a quote would be the opening of a block string
no_third : (bytes rest after : List ℕ) → bytes ≡ (34 ∷ rest) ++ after → rest ≡ 34 ∷ [] → starts_with nat_eq bytes quotes ≡ false → next_is (λ b. b == 34) after ≡ false
no_third bytes rest after split empty not_block = false_from_ne_true _ (λ third.
    let three : bytes ≡ 34 ∷ 34 ∷ 34 ∷ drop 1 after = split ∙ ap (λ r. 34 ∷ (r ++ after)) empty ∙ ap (λ more. 34 ∷ 34 ∷ more) (quote_first after third) in
    false≢true (sym not_block ∙ ap (λ bs. starts_with nat_eq bs quotes) three))

-- what is taken as a string in one quote is one
pub plain_sound : (at : ℕ) (bytes : List ℕ) (k : TokenKind) (n : ℕ) → next_is (λ b. b == 34) bytes ≡ true → starts_with nat_eq bytes quotes ≡ false
    → plain_at at bytes ≡ Ok (k, n) → IsTokenInFront bytes k n
unfolding plain_at
plain_sound at bytes k n starts not_block h =
    let more = drop 1 bytes in
    bind_ok (ok_or (plain_len false more) (OpenString at)) _ (k, n) h (λ m ends read.
    bind_ok (characters Plain (at + 1) (take m more)) _ (k, n) read (λ value chars end.
    let closes = found_ok (plain_len false more) (OpenString at) m ends in
    let is = closed_by false more m closes in
    let inner = take m more in
    let rest = inner ++ 34 ∷ [] in
    let same : ◌≡◌ {A = TokenKind × ℕ} (kind.Str value, m + 2) (k, n) = cc in
    let split : bytes ≡ (34 ∷ rest) ++ is.after
    = quote_first bytes starts ∙ ap (λ bs. 34 ∷ bs) (is.split ∙ sym (append_assoc inner (34 ∷ []) is.after)) in
    let len : length (34 ∷ rest) ≡ m + 2 = omega (arith, is.len, length-append inner (34 ∷ [])) in
    let front = front_of bytes (34 ∷ rest) is.after (m + 2) split len in
    let string : IsPlainString (take (m + 2) bytes) (drop (m + 2) bytes) value = record {
      rest = rest;
      opened = front.0;
      is_rest = plain_read (at + 1) m more value closes chars;
      not_block = λ empty. subst (λ bs. next_is (λ b. b == 34) bs ≡ false) (sym front.1) (no_third bytes rest is.after split empty not_block);
    } in
    same_token bytes (kind.Str value, m + 2) (k, n) same (record {
      some = omega arith;
      within = omega (arith, ap length split, length-append (34 ∷ rest) is.after, len);
      is = inl string;
    })))

-- a string in three quotes
pub block_sound : (at : ℕ) (bytes : List ℕ) (k : TokenKind) (n : ℕ) → starts_with nat_eq bytes quotes ≡ true
    → block_at at bytes ≡ Ok (k, n) → IsTokenInFront bytes k n
unfolding block_at
block_sound at bytes k n starts h =
    let more = drop 3 bytes in
    bind_ok (ok_or (block_len 0 more) (OpenString at)) _ (k, n) h (λ m ends read.
    bind_ok (characters Block (at + 3) (take m more)) _ (k, n) read (λ raw chars end.
    let closes = found_ok (block_len 0 more) (OpenString at) m ends in
    let is = block_closed_by 0 more m closes in
    let inner = take m more in
    let rest = inner ++ quotes in
    let same : ◌≡◌ {A = TokenKind × ℕ} (kind.Str (block_value raw), m + 6) (k, n) = cc in
    let split : bytes ≡ (quotes ++ rest) ++ is.after
    = begins quotes bytes starts ∙ ap (λ bs. quotes ++ bs) (is.split ∙ sym (append_assoc inner quotes is.after)) in
    let len : length (quotes ++ rest) ≡ m + 6 = omega (arith, is.len, length-append inner quotes) in
    let front = front_of bytes (quotes ++ rest) is.after (m + 6) split len in
    let string : IsBlockString (take (m + 6) bytes) (block_value raw) = record {
      rest = rest;
      raw = raw;
      opened = front.0;
      is_rest = block_read (at + 3) m more raw closes chars;
      laid_out = refl;
    } in
    same_token bytes (kind.Str (block_value raw), m + 6) (k, n) same (record {
      some = omega arith;
      within = omega (arith, ap length split, length-append (quotes ++ rest) is.after, len);
      is = inr string;
    })))

-- what is taken as a string is one
pub string_sound : (at : ℕ) (bytes : List ℕ) (k : TokenKind) (n : ℕ) → next_is (λ b. b == 34) bytes ≡ true → string_at at bytes ≡ Ok (k, n) → IsTokenInFront bytes k n
unfolding string_at
string_sound at bytes k n starts h = ⊎_elim
    (λ (block : (starts_with nat_eq bytes quotes ≡ true) × (block_at at bytes ≡ Ok (k, n))). block_sound at bytes k n block.0 block.1)
    (λ (plain : (starts_with nat_eq bytes quotes ≡ false) × (plain_at at bytes ≡ Ok (k, n))). plain_sound at bytes k n starts plain.0 plain.1)
    (tested (starts_with nat_eq bytes quotes) (block_at at bytes) (plain_at at bytes) (Ok (k, n)) h)
