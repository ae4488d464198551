-- Parsing from left to right, one token ahead: each parser gives a value and the tokens behind it, or where it stops.
use Rattle.std.specs.Prelude.{ℕ, zero, suc, Bool, not, List, [], ◌∷◌, length, Option, Some, None, Result, Ok, Err, if◌then◌else◌}
use Rattle.hq_base.specs.Due.{◌>>=◌}
use Rattle.hq_gql_lexer.specs.declared.token.Punct.{Punct}
use Rattle.hq_gql_lexer.specs.declared.token.Token.{Token}
use Rattle.hq_gql_lexer.specs.declared.token.TokenKind.{TokenKind}
use Rattle.hq_gql_lexer.specs.declared.token.TokenKind.TheVariants as kind
use Rattle.hq_gql_parser.specs.declared.keyword.Keyword.{Keyword}
use Rattle.hq_gql_parser.specs.declared.keyword.Keyword.TheVariants as keyword
use Rattle.hq_gql_parser.specs.declared.lookahead.Lookahead.{Lookahead}
use Rattle.hq_gql_parser.specs.declared.lookahead.Lookahead.TheVariants as ahead
use Rattle.hq_gql_parser.specs.declared.stop.Stop.{Stop}
use Rattle.hq_gql_parser.specs.declared.stop.Stop.TheVariants.{Unexpected, TooDeep}
use Rattle.hq_gql_parser.specs.Lookahead.{next_of, next, is_at, is_keyword}

abbrev pub Parse : Type 0 → Type 0
Parse A = List Token → Result (A × List Token) Stop

-- ---- one token

abbrev pub taken : {A : Type 0} → Option A → Token → List Token → Result (A × List Token) Stop
taken None t ts = Err (Unexpected (length (t ∷ ts)))
taken (Some x) t ts = Ok (x, ts)

-- the next token, where it is of use
abbrev pub take : {A : Type 0} → (Token → Option A) → Parse A
take use_of [] = Err (Unexpected 0)
take use_of (t ∷ ts) = taken (use_of t) t ts

abbrev pub punct_use : Punct → Token → Option ℕ
punct_use p t = if is_at (ahead.Punct p) (next_of t.kind) then Some t.from else None

-- this punctuator; it gives its place
unfoldable pub punct_at : Punct → Parse ℕ
punct_at p = take (punct_use p)

abbrev pub name_of : TokenKind → Option (List ℕ)
name_of (kind.Punct p) = None
name_of (kind.Name name) = Some name
name_of (kind.Int text) = None
name_of (kind.Float text) = None
name_of (kind.Str value) = None

abbrev pub with_place : ℕ → Option (List ℕ) → Option (ℕ × List ℕ)
with_place at None = None
with_place at (Some name) = Some (at, name)

abbrev pub name_use : Token → Option (ℕ × List ℕ)
name_use t = with_place t.from (name_of t.kind)

-- a name, with its place
unfoldable pub name_at : Parse (ℕ × List ℕ)
name_at = take name_use

abbrev pub when : {A : Type 0} → Bool → A → Option A
when b x = if b then Some x else None

abbrev pub keyword_use_of : Keyword → ℕ → Option (List ℕ) → Option ℕ
keyword_use_of w at None = None
keyword_use_of w at (Some name) = when (is_keyword name w) at

abbrev pub keyword_use : Keyword → Token → Option ℕ
keyword_use w t = keyword_use_of w t.from (name_of t.kind)

-- this keyword; it gives its place
unfoldable pub keyword_at : Keyword → Parse ℕ
keyword_at w = take (keyword_use w)

abbrev pub fragment_use_of : Option (List ℕ) → Option (List ℕ)
fragment_use_of None = None
fragment_use_of (Some name) = when (not (is_keyword name keyword.On)) name

abbrev pub fragment_use : Token → Option (List ℕ)
fragment_use t = fragment_use_of (name_of t.kind)

-- a name but `on`
unfoldable pub fragment_name_at : Parse (List ℕ)
fragment_name_at = take fragment_use

-- ---- several

-- where a bracket stops that is one too many
unfoldable pub too_deep_or_unexpected : Punct → List Token → Stop
too_deep_or_unexpected p ts = if is_at (ahead.Punct p) (next ts) then TooDeep (length ts) else Unexpected (length ts)

-- this or that, as the test on what stands next says
abbrev pub either : {A : Type 0} → (Lookahead → Bool) → Parse A → Parse A → Parse A
either test p q ts = if test (next ts) then p ts else q ts

-- items while the test holds, at most so many
unfoldable pub many : {A : Type 0} → (Lookahead → Bool) → Parse A → ℕ → Parse (List A)
many test item zero ts = Err (Unexpected (length ts))
many test item (suc n) ts = if test (next ts) then (item ts >>= λ x. many test item n x.1 >>= λ xs. Ok (x.0 ∷ xs.0, xs.1)) else Ok ([], ts)

-- items while the test holds
abbrev pub all : {A : Type 0} → (Lookahead → Bool) → Parse A → Parse (List A)
all test item ts = many test item (suc (length ts)) ts

-- an item, and more while the test holds
unfoldable pub some : {A : Type 0} → (Lookahead → Bool) → Parse A → Parse (List A)
some test item ts = item ts >>= λ x. all test item x.1 >>= λ xs. Ok (x.0 ∷ xs.0, xs.1)

-- until this stands next
abbrev pub until : Lookahead → Lookahead → Bool
until a n = not (is_at a n)

abbrev pub until_punct : Punct → Lookahead → Bool
until_punct p = until (ahead.Punct p)
