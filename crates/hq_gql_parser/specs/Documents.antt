-- What parsing answers: the document that the tokens spell, or the first token that stops it.
use Rattle.std.specs.Prelude.{◌≡◌, ◌≢◌, ℕ, zero, suc, ◌≤◌, List, [], ◌∷◌, ◌++◌, Option, Some, None, Result, Ok, Err}
use Rattle.hq_gql_lexer.specs.declared.token.Punct.{Punct}
use Rattle.hq_gql_lexer.specs.declared.token.Punct.TheVariants as punct
use Rattle.hq_gql_lexer.specs.declared.token.Token.{Token}
use Rattle.hq_gql_lexer.specs.declared.token.TokenKind.{TokenKind}
use Rattle.hq_gql_lexer.specs.declared.token.TokenKind.TheVariants as kind
use Rattle.hq_gql_tree.specs.Documents.{DocumentTree}
use Rattle.hq_gql_tree.specs.Nesting.{document_nest}
use Rattle.hq_gql_parser.specs.declared.refusal.ParseRefusal.{ParseRefusal}
use Rattle.hq_gql_parser.specs.declared.refusal.ParseRefusal.TheVariants.{Unexpected, TooDeep, Empty, Memory}
use Rattle.hq_gql_parser.specs.Operations.{IsDocument}

-- How many brackets may open behind a token, where so many may open before it; None where it opens one too many. The
-- brackets are `{` and `[`.
abbrev pub left_behind_open : ℕ → Option ℕ
left_behind_open zero = None
left_behind_open (suc n) = Some n

abbrev pub left_behind_punct : Punct → ℕ → Option ℕ
left_behind_punct punct.Bang n = Some n
left_behind_punct punct.Dollar n = Some n
left_behind_punct punct.Ampersand n = Some n
left_behind_punct punct.OpenParenthesis n = Some n
left_behind_punct punct.CloseParenthesis n = Some n
left_behind_punct punct.Spread n = Some n
left_behind_punct punct.Colon n = Some n
left_behind_punct punct.Equals n = Some n
left_behind_punct punct.At n = Some n
left_behind_punct punct.OpenBracket n = left_behind_open n
left_behind_punct punct.CloseBracket n = Some (suc n)
left_behind_punct punct.OpenBrace n = left_behind_open n
left_behind_punct punct.Pipe n = Some n
left_behind_punct punct.CloseBrace n = Some (suc n)

abbrev pub left_behind : TokenKind → ℕ → Option ℕ
left_behind (kind.Punct p) n = left_behind_punct p n
left_behind (kind.Name name) n = Some n
left_behind (kind.Int text) n = Some n
left_behind (kind.Float text) n = Some n
left_behind (kind.Str text) n = Some n

-- the next step, where there is one
abbrev pub and_then : {A B : Type 0} → (A → Option B) → Option A → Option B
and_then f None = None
and_then f (Some x) = f x

-- the same behind these tokens; None where one of them opens one too many
abbrev pub brackets_left : ℕ → List Token → Option ℕ
brackets_left n [] = Some n
brackets_left n (t ∷ ts) = and_then (λ m. brackets_left m ts) (left_behind t.kind n)

-- so many brackets may be open at once
abbrev pub nesting_limit : ℕ
nesting_limit = 50

-- a document begins with these tokens
abbrev pub BeginsDocument : List Token → Type 0
BeginsDocument front = (more : List Token) × (d : DocumentTree) × IsDocument d (front ++ more)

-- no document begins with these tokens and the next one; where there is no next one, they are no document
abbrev pub NoneGoesOn : List Token → List Token → Type 0
NoneGoesOn front [] = (d : DocumentTree) → IsDocument d front → ⊥
NoneGoesOn front (t ∷ rest) = BeginsDocument (front ++ t ∷ []) → ⊥

-- the place of the first token; the text's end where there is none
abbrev pub place : (end : ℕ) → List Token → ℕ
place end [] = end
place end (t ∷ ts) = t.from

-- The token that begins the rest is the first with which no document begins, and no bracket before it is one too many.
abbrev pub IsUnexpected : (end : ℕ) → List Token → (at : ℕ) → Type 0
IsUnexpected end ts at =
    (front : List Token) × (rest : List Token) × (ts ≢ []) × (ts ≡ front ++ rest) × (at ≡ place end rest) × BeginsDocument front
    × NoneGoesOn front rest × ((n : ℕ) × (brackets_left nesting_limit front ≡ Some n))

-- A document begins with the tokens up to this one, and it is the first bracket that is one too many.
abbrev pub IsTooDeep : List Token → (at : ℕ) → Type 0
IsTooDeep ts at =
    (front : List Token) × (t : Token) × (rest : List Token) × (ts ≡ front ++ (t ∷ rest)) × (at ≡ t.from) × BeginsDocument (front ++ t ∷ [])
    × (brackets_left nesting_limit front ≡ Some 0) × (left_behind t.kind 0 ≡ None)

-- the answers that are due
abbrev pub Parses : (end : ℕ) → List Token → Result DocumentTree ParseRefusal → Type 0
Parses end ts (Ok d) = IsDocument d ts × (document_nest d ≤ nesting_limit)
Parses end ts (Err (Unexpected at)) = IsUnexpected end ts at
Parses end ts (Err (TooDeep at)) = IsTooDeep ts at
Parses end ts (Err Empty) = ts ≡ []
Parses end ts (Err Memory) = ⊥
