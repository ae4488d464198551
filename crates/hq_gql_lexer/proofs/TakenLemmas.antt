-- A text of the productions has their tokens: each lexeme is taken whole.
use Rattle.std.proofs.Common.{◌≡◌, ℕ, ◌+◌, ◌<◌, Bool, true, false, List, [], ◌∷◌, ◌++◌, length, Option, Some, None, Result, Ok, refl, sym, ap, ◌∙◌, subst, arith, ◌⊎◌, append_assoc}
use Rattle.std.specs.Prelude.{◌||◌, ◌&&◌, ◌==◌}
use Rattle.std.specs.Char.{is_ascii_digit}
use Rattle.std.proofs.lemmas.Bool.{cond-true, cond-false, false≢true, or_from, or_left}
use Rattle.std.proofs.lemmas.Bool.Decides.{nat_tests}
use Rattle.std.proofs.lemmas.List.{length-append, drop_at}
use Rattle.hq_base.specs.Due.{◌>>=◌}
use Rattle.hq_gql_lexer.specs.declared.refusal.LexRefusal.{LexRefusal}
use Rattle.hq_gql_lexer.specs.declared.token.Punct.{Punct}
use Rattle.hq_gql_lexer.specs.declared.token.Punct.TheVariants as punct
use Rattle.hq_gql_lexer.specs.declared.token.Token.{Token}
use Rattle.hq_gql_lexer.specs.declared.token.TokenKind.{TokenKind}
use Rattle.hq_gql_lexer.specs.declared.token.TokenKind.TheVariants as kind
use Rattle.hq_gql_lexer.specs.Characters.{next_is, is_name_start, is_name_continue}
use Rattle.hq_gql_lexer.specs.Steps.{steps}
use Rattle.hq_gql_lexer.specs.Lexemes.{is_ignored, ignored_at, punct_of, one_byte, punct_at, starts_number, number_at, string_at, punct_or, token_at, ignored_or, lexeme_at, tokens_in, tokens_at, tokens_of}
use Rattle.hq_gql_lexer.specs.Grammar.{punct_text, IsName, IsFloat, IsPlainString, IsBlockString, IsToken, IsIgnored, Lexes, nothing, ignored, token}
use Rattle.hq_gql_lexer.proofs.StepsLemmas.{with_front, steps_one}
use Rattle.hq_gql_lexer.proofs.SoundLemmas.{punct_of_text}
use Rattle.hq_gql_lexer.proofs.LexLemmas.{token_some}
use Rattle.hq_gql_lexer.proofs.NumberTakenLemmas.{other_byte, name_taken, integer_starts, int_taken, float_taken}
use Rattle.hq_gql_lexer.proofs.IgnoredTakenLemmas.{no_start, ignored_taken, ignored_some}
use Rattle.hq_gql_lexer.proofs.StringTakenLemmas.{string_taken}

-- what a name or a number begins with
abbrev is_word_start : ℕ → Bool
is_word_start b = is_name_start b || is_ascii_digit b || b == 45

-- no such byte is ignored
word_not_ignored : (at b : ℕ) (bytes : List ℕ) → is_word_start b ≡ true → ignored_at at (b ∷ bytes) ≡ Ok None
unfolding ignored_at
word_not_ignored at b bytes h =
    let space = or_from _ _ (other_byte is_word_start b 9 refl h) (other_byte is_word_start b 32 refl h) in
    let end = or_from _ _ (other_byte is_word_start b 10 refl h) (other_byte is_word_start b 13 refl h) in
    cond-false (b == 35) _ _ (other_byte is_word_start b 35 refl h)
    ∙ cond-false _ _ _ (no_start 0xEF b (0xBB ∷ 0xBF ∷ []) bytes (other_byte is_word_start b 0xEF refl h))
    ∙ cond-false (is_ignored b) _ _ (or_from _ _ (or_from _ _ space end) (other_byte is_word_start b 44 refl h))

-- no punctuator begins with one
punct_first : (p : Punct) → next_is is_word_start (punct_text p) ≡ false
punct_first punct.Bang = refl
punct_first punct.Dollar = refl
punct_first punct.Ampersand = refl
punct_first punct.OpenParenthesis = refl
punct_first punct.CloseParenthesis = refl
punct_first punct.Spread = refl
punct_first punct.Colon = refl
punct_first punct.Equals = refl
punct_first punct.At = refl
punct_first punct.OpenBracket = refl
punct_first punct.CloseBracket = refl
punct_first punct.OpenBrace = refl
punct_first punct.Pipe = refl
punct_first punct.CloseBrace = refl

-- so it is none
none_of : (b : ℕ) (o : Option Punct) → is_word_start b ≡ true → punct_of b ≡ o → one_byte o ≡ None
none_of b None h e = refl
none_of b (Some p) h e = absurd (false≢true (sym (punct_first p) ∙ ap (next_is is_word_start) (punct_of_text b p e) ∙ h))

-- nor does one stand at the front
no_punct : (b : ℕ) (bytes : List ℕ) → is_word_start b ≡ true → punct_at (b ∷ bytes) ≡ None
unfolding punct_at
no_punct b bytes h =
    cond-false _ _ _ (no_start 46 b (46 ∷ 46 ∷ []) bytes (other_byte is_word_start b 46 refl h)) ∙ none_of b (punct_of b) h refl

-- where no punctuator is found the other answer counts
not_punct : (o : Option (Punct × ℕ)) (other : Result (TokenKind × ℕ) LexRefusal) → o ≡ None → punct_or o other ≡ other
not_punct o other h = ap (λ p. punct_or p other) h

-- what is a token and not ignored is a lexeme
lexeme_from : (at : ℕ) (bytes : List ℕ) (k : TokenKind) (n : ℕ) → ignored_at at bytes ≡ Ok None → token_at at bytes ≡ Ok (k, n) → lexeme_at at bytes ≡ Ok (Some k, n)
unfolding lexeme_at
lexeme_from at bytes k n h e =
    ap (λ r. r >>= λ i. ignored_or i (token_at at bytes)) h ∙ ap (λ r. r >>= λ t. Ok (Some t.0, t.1)) e

-- the same of what is ignored
lexeme_ignored : (at : ℕ) (bytes : List ℕ) (n : ℕ) → ignored_at at bytes ≡ Ok (Some n) → lexeme_at at bytes ≡ Ok (None, n)
unfolding lexeme_at
lexeme_ignored at bytes n h = ap (λ r. r >>= λ i. ignored_or i (token_at at bytes)) h

-- a digit begins no name
no_digit : (b : ℕ) → is_name_start b ≡ true → is_ascii_digit b ≡ false
no_digit b h = grind (arith, nat_tests)

-- a name is a lexeme
name_lexeme : (at : ℕ) (text next : List ℕ) → IsName text → next_is is_name_continue next ≡ false → lexeme_at at (text ++ next) ≡ Ok (Some (kind.Name text), length text)
unfolding token_at
name_lexeme at [] next h stop = absurd h
name_lexeme at (b ∷ text) next h stop =
    let bytes = text ++ next in
    let word : is_word_start b ≡ true = or_left _ _ (or_left _ _ h.0) in
    let number : starts_number (b ∷ bytes) ≡ false
    = or_from _ _ (no_digit b h.0) (ap (λ t. t && next_is is_ascii_digit bytes) (other_byte is_name_start b 45 refl h.0)) in
    let found : token_at at (b ∷ bytes) ≡ Ok (kind.Name (b ∷ text), length (b ∷ text))
    = not_punct _ _ (no_punct b bytes word) ∙ cond-false _ _ _ number ∙ cond-false (b == 34) _ _ (other_byte is_name_start b 34 refl h.0)
    ∙ cond-true (is_name_start b) _ _ h.0 ∙ name_taken (b ∷ text) next h stop in
    lexeme_from at (b ∷ bytes) _ _ (word_not_ignored at b bytes word) found

-- what starts a number starts with a digit or a `-`
number_word : (n d m more : Bool) → (d || m && more) ≡ true → (n || d || m) ≡ true
number_word true d m more h = refl
number_word false true m more h = refl
number_word false false true more h = refl
number_word false false false more h = h

-- a number is a lexeme
number_lexeme : (at : ℕ) (bytes : List ℕ) (k : TokenKind) (n : ℕ) → starts_number bytes ≡ true → number_at at bytes ≡ Ok (k, n) → lexeme_at at bytes ≡ Ok (Some k, n)
unfolding token_at
number_lexeme at [] k n h read = absurd (false≢true h)
number_lexeme at (b ∷ bytes) k n h read =
    let word : is_word_start b ≡ true = number_word (is_name_start b) (is_ascii_digit b) (b == 45) (next_is is_ascii_digit bytes) h in
    let found : token_at at (b ∷ bytes) ≡ Ok (k, n) = not_punct _ _ (no_punct b bytes word) ∙ cond-true _ _ _ h ∙ read in
    lexeme_from at (b ∷ bytes) k n (word_not_ignored at b bytes word) found

-- a punctuator is a lexeme
punct_lexeme : (at : ℕ) (p : Punct) (next : List ℕ) → lexeme_at at (punct_text p ++ next) ≡ Ok (Some (kind.Punct p), length (punct_text p))
unfolding lexeme_at ignored_at token_at punct_at punct_of
punct_lexeme at punct.Bang next = refl
punct_lexeme at punct.Dollar next = refl
punct_lexeme at punct.Ampersand next = refl
punct_lexeme at punct.OpenParenthesis next = refl
punct_lexeme at punct.CloseParenthesis next = refl
punct_lexeme at punct.Spread next = refl
punct_lexeme at punct.Colon next = refl
punct_lexeme at punct.Equals next = refl
punct_lexeme at punct.At next = refl
punct_lexeme at punct.OpenBracket next = refl
punct_lexeme at punct.CloseBracket next = refl
punct_lexeme at punct.OpenBrace next = refl
punct_lexeme at punct.Pipe next = refl
punct_lexeme at punct.CloseBrace next = refl

-- what a quote begins is a string
string_lexeme : (at : ℕ) (bytes : List ℕ) (k : TokenKind) (n : ℕ) → string_at at (34 ∷ bytes) ≡ Ok (k, n) → lexeme_at at (34 ∷ bytes) ≡ Ok (Some k, n)
unfolding ignored_at token_at punct_at punct_of
string_lexeme at bytes k n h = lexeme_from at (34 ∷ bytes) k n refl h

-- a string is a lexeme
quoted_lexeme : (at : ℕ) (text next value : List ℕ) → IsPlainString text next value ⊎ IsBlockString text value
    → lexeme_at at (text ++ next) ≡ Ok (Some (kind.Str value), length text)
quoted_lexeme at text next value is =
    let found = string_taken at text next value is in
    let begins : text ++ next ≡ 34 ∷ (found.0 ++ next) = ap (λ t. t ++ next) found.1 in
    subst (λ bytes. lexeme_at at bytes ≡ Ok (Some (kind.Str value), length text)) (sym begins)
    (string_lexeme at (found.0 ++ next) _ _ (subst (λ bytes. string_at at bytes ≡ Ok (kind.Str value, length text)) begins found.2))

-- each token of the productions is a lexeme
pub token_taken : (at : ℕ) (text next : List ℕ) (k : TokenKind) → IsToken text next k → lexeme_at at (text ++ next) ≡ Ok (Some k, length text)
token_taken at text next (kind.Punct p) is =
    subst (λ t. lexeme_at at (t ++ next) ≡ Ok (Some (kind.Punct p), length t)) (sym is) (punct_lexeme at p next)
token_taken at text next (kind.Name name) is =
    subst (λ t. lexeme_at at (text ++ next) ≡ Ok (Some (kind.Name t), length text)) (sym is.0) (name_lexeme at text next is.1 is.2)
token_taken at text next (kind.Int number) is =
    subst (λ t. lexeme_at at (text ++ next) ≡ Ok (Some (kind.Int t), length text)) (sym is.0)
    (number_lexeme at (text ++ next) _ _ (integer_starts text next is.1) (int_taken at text next is.1 is.2))
token_taken at text next (kind.Float number) is =
    subst (λ t. lexeme_at at (text ++ next) ≡ Ok (Some (kind.Float t), length text)) (sym is.0)
    (number_lexeme at (text ++ next) _ _ (float_starts text next is.1) (float_taken at text next is.1 is.2))
  where
    float_starts : (text next : List ℕ) (is : IsFloat text) → starts_number (text ++ next) ≡ true
    float_starts text next is = subst (λ t. starts_number t ≡ true) (sym (ap (λ t. t ++ next) is.parts ∙ append_assoc is.whole _ next))
        (integer_starts is.whole ((is.fraction ++ is.exponent) ++ next) is.is_whole)
token_taken at text next (kind.Str value) is = quoted_lexeme at text next value is

-- so is what is ignored
pub ignored_lexeme : (at : ℕ) (text next : List ℕ) → IsIgnored text next → lexeme_at at (text ++ next) ≡ Ok (None, length text)
ignored_lexeme at text next is = lexeme_ignored at (text ++ next) (length text) (ignored_taken at text next is)

-- one lexeme, and what comes after it
step_taken : (at : ℕ) (text next : List ℕ) (o : Option TokenKind) (others : List Token) → 0 < length text → lexeme_at at (text ++ next) ≡ Ok (o, length text)
    → steps tokens_at 0 (at + length text) next ≡ Ok others → steps tokens_at 0 at (text ++ next) ≡ Ok (tokens_in at o (length text) ++ others)
step_taken at text next o others some found behind =
    let n = length text in
    let first : tokens_at at (text ++ next) ≡ Ok (tokens_in at o n, n) = ap (λ r. r >>= λ l. Ok (tokens_in at l.0 l.1, l.1)) found in
    steps_one tokens_at at (text ++ next) (tokens_in at o n) n first some (omega (arith, length-append text next))
    ∙ ap (with_front (tokens_in at o n)) (ap (steps tokens_at 0 (at + n)) (drop_at text next n refl) ∙ behind)

-- what the productions allow from a place on is made by the steps
taken_from : (at : ℕ) (bytes : List ℕ) (tokens : List Token) → Lexes at bytes tokens → steps tokens_at 0 at bytes ≡ Ok tokens
taken_from at bytes tokens (nothing at') = refl
taken_from at bytes tokens (ignored at' text next ts is more) =
    step_taken at' text next None ts (ignored_some text next is) (ignored_lexeme at' text next is)
    (taken_from (at' + length text) next ts more)
taken_from at bytes tokens (token at' k text next ts is more) =
    step_taken at' text next (Some k) ts (token_some text next k is) (token_taken at' text next k is) (taken_from (at' + length text) next ts more)

-- what the productions allow is lexed so
pub Lexes-tokens_of : (text : List ℕ) (tokens : List Token) → Lexes 0 text tokens → tokens_of text ≡ Ok tokens
unfolding tokens_of
Lexes-tokens_of text tokens h = taken_from 0 text tokens h
