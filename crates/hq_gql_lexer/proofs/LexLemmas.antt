-- The tokens of a text are those of the productions, in order.
use Rattle.std.proofs.Common.{◌≡◌, ℕ, zero, suc, ◌+◌, ◌-◌, ◌<◌, ◌≤◌, List, [], ◌∷◌, ◌++◌, length, take, drop, Option, Some, None, Result, Ok, Err, sym, ap, ◌∙◌, subst, inl, inr, arith}
use Rattle.std.specs.Prelude.{IfOk}
use Rattle.std.proofs.lemmas.List.{length-append, length-drop, length-take-le, take-append-drop}
use Rattle.hq_base.specs.Due.{Gives}
use Rattle.hq_gql_lexer.specs.declared.refusal.LexRefusal.{LexRefusal}
use Rattle.hq_gql_lexer.specs.declared.refusal.LexRefusal.TheVariants as refusal
use Rattle.hq_gql_lexer.specs.declared.token.Token.{Token}
use Rattle.hq_gql_lexer.specs.declared.token.TokenKind.{TokenKind}
use Rattle.hq_gql_lexer.specs.declared.token.TokenKind.TheVariants as kind
use Rattle.hq_gql_lexer.specs.Steps.{steps}
use Rattle.hq_gql_lexer.specs.Lexemes.{lexeme_at, tokens_in, tokens_at, tokens_of}
use Rattle.hq_gql_lexer.specs.declared.token.Punct.{Punct}
use Rattle.hq_gql_lexer.specs.declared.token.Punct.TheVariants as punct
use Rattle.hq_gql_lexer.specs.Grammar.{punct_text, IsName, IsInteger, IsToken, Lexes, nothing, ignored, token}
use Rattle.hq_gql_lexer.specs.Spans.{AreInOrder}
use Rattle.hq_gql_lexer.proofs.StepsLemmas.{bind_ok, steps_first, steps_from}
use Rattle.hq_gql_lexer.proofs.SoundLemmas.{IsLexeme, lexeme_sound}

-- one lexeme, and what comes after it
lexes_one : (at : ℕ) (bytes : List ℕ) (o : Option TokenKind) (n : ℕ) (others : List Token) → IsLexeme at bytes o n → Lexes (at + n) (drop n bytes) others
    → Lexes at bytes (tokens_in at o n ++ others)
lexes_one at bytes None n others is behind =
    let len : length (take n bytes) ≡ n = length-take-le n bytes is.within in
    let next = subst (λ k. Lexes (at + k) (drop n bytes) others) (sym len) behind in
    let built : Lexes at (take n bytes ++ drop n bytes) others = ignored at (take n bytes) (drop n bytes) others is.is next in
    subst (λ text. Lexes at text others) (take-append-drop n bytes) built
lexes_one at bytes (Some k) n others is behind =
    let len : length (take n bytes) ≡ n = length-take-le n bytes is.within in
    let next = subst (λ k. Lexes (at + k) (drop n bytes) others) (sym len) behind in
    let built : Lexes at (take n bytes ++ drop n bytes) (record { from = at; to = at + length (take n bytes); kind = k } ∷ others)
    = token at k (take n bytes) (drop n bytes) others is.is next in
    subst (λ text. Lexes at text (record { from = at; to = at + n; kind = k } ∷ others)) (take-append-drop n bytes)
    (subst (λ j. Lexes at (take n bytes ++ drop n bytes) (record { from = at; to = at + j; kind = k } ∷ others)) len built)

-- what the steps make from a place on is of the productions
lexes_from : (m at : ℕ) (bytes : List ℕ) (tokens : List Token) → length bytes < m → steps tokens_at 0 at bytes ≡ Ok tokens → Lexes at bytes tokens
lexes_from zero at bytes tokens h e = absurd (omega arith)
lexes_from (suc m) at [] tokens h e = let none : [] ≡ tokens = cc in subst (Lexes at []) none (nothing at)
lexes_from (suc m) at (b ∷ bytes) tokens h e =
    let first = steps_first tokens_at at b bytes tokens e in
    bind_ok (lexeme_at at (b ∷ bytes)) _ (first.piece, first.n) first.first (λ l found end.
    let same : ◌≡◌ {A = List Token × ℕ} (tokens_in at l.0 l.1, l.1) (first.piece, first.n) = cc in
    let is = lexeme_sound at (b ∷ bytes) l.0 l.1 found in
    let behind : steps tokens_at 0 (at + l.1) (drop l.1 (b ∷ bytes)) ≡ Ok first.others
    = sym (steps_from tokens_at l.1 at b bytes is.some is.within) ∙ ap (λ n. steps tokens_at (n - 1) (at + 1) bytes) (ap (λ p. p.1) same) ∙ first.behind in
    let shorter : length (drop l.1 (b ∷ bytes)) < m = omega (arith, length-drop l.1 (b ∷ bytes), is.some, is.within) in
    let inner = lexes_from m (at + l.1) (drop l.1 (b ∷ bytes)) first.others shorter behind in
    subst (Lexes at (b ∷ bytes)) (ap (λ piece. piece ++ first.others) (ap (λ p. p.0) same) ∙ first.whole)
    (lexes_one at (b ∷ bytes) l.0 l.1 first.others is inner))

-- what is lexed is of the productions
pub tokens_of-Lexes : (text : List ℕ) (tokens : List Token) → tokens_of text ≡ Ok tokens → Lexes 0 text tokens
unfolding tokens_of
tokens_of-Lexes text tokens h = lexes_from (suc (length text)) 0 text tokens (omega arith) h

-- no token is empty
punct_some : (p : Punct) → 0 < length (punct_text p)
punct_some punct.Bang = omega arith
punct_some punct.Dollar = omega arith
punct_some punct.Ampersand = omega arith
punct_some punct.OpenParenthesis = omega arith
punct_some punct.CloseParenthesis = omega arith
punct_some punct.Spread = omega arith
punct_some punct.Colon = omega arith
punct_some punct.Equals = omega arith
punct_some punct.At = omega arith
punct_some punct.OpenBracket = omega arith
punct_some punct.CloseBracket = omega arith
punct_some punct.OpenBrace = omega arith
punct_some punct.Pipe = omega arith
punct_some punct.CloseBrace = omega arith

-- no name is empty
name_some : (text : List ℕ) → IsName text → 0 < length text
name_some [] h = absurd h
name_some (b ∷ text) h = omega arith

-- no whole number is empty
integer_some : (text : List ℕ) → IsInteger text → 0 < length text
integer_some [] h = absurd h
integer_some (b ∷ text) h = omega arith

-- no token is empty
pub token_some : (text next : List ℕ) (k : TokenKind) → IsToken text next k → 0 < length text
token_some text next (kind.Punct p) is = subst (λ t. 0 < length t) (sym is) (punct_some p)
token_some text next (kind.Name name) is = name_some text is.1
token_some text next (kind.Int number) is = integer_some text is.1
token_some text next (kind.Float number) is =
    omega (arith, ap length is.1.parts, length-append is.1.whole (is.1.fraction ++ is.1.exponent), integer_some is.1.whole is.1.is_whole)
token_some text next (kind.Str value) (inl string) = omega (arith, ap length string.opened)
token_some text next (kind.Str value) (inr string) = omega (arith, ap length string.opened)

-- tokens that stand behind a place stand behind each earlier one
in_order_from : (from from' to : ℕ) (tokens : List Token) → from' ≤ from → AreInOrder from to tokens → AreInOrder from' to tokens
in_order_from from from' to [] h is = omega arith
in_order_from from from' to (t ∷ ts) h is = (omega (arith, is.0), is.1, is.2)

-- the spans of tokens are in order, within the text
spans : (at : ℕ) (text : List ℕ) (tokens : List Token) → Lexes at text tokens → AreInOrder at (at + length text) tokens
spans at text tokens (nothing at') = omega arith
spans at text tokens (ignored at' front next ts is more) =
    let inner = spans (at' + length front) next ts more in
    in_order_from (at' + length front) at' _ ts (omega arith)
    (subst (λ to. AreInOrder (at' + length front) to ts) (omega (arith, length-append front next)) inner)
spans at text tokens (token at' k front next ts is more) =
    let inner = spans (at' + length front) next ts more in
    let some = token_some front next k is in
    (omega arith, omega (arith, some), subst (λ to. AreInOrder (at' + length front) to ts) (omega (arith, length-append front next)) inner)

-- so are those of an answer
pub given_spans : (text : List ℕ) (result : Result (List Token) LexRefusal) → Gives (λ t. t) refusal.Memory (tokens_of text) result → IfOk result (λ tokens. AreInOrder 0 (length text) tokens)
given_spans text (Ok tokens) h = subst (λ to. AreInOrder 0 to tokens) (omega arith) (spans 0 text tokens (tokens_of-Lexes text tokens h))
given_spans text (Err e) h = tt
