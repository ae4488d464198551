-- The productions of the lexical grammar (GraphQL October 2021, section 2.1): which bytes are which token. `next` is
-- what follows them, where the standard looks ahead.
use Rattle.std.specs.Prelude.{◌≡◌, ◌≢◌, ℕ, ◌+◌, ◌⊎◌, List, [], ◌∷◌, ◌++◌, length, false, ◌||◌, ◌==◌, nat_eq, IsTrue, Some, MatchBool, encode_utf8}
use Rattle.std.specs.List.{list_all, starts_with}
use Rattle.std.specs.Char.{IsScalar, is_ascii_digit}
use Rattle.hq_gql_lexer.specs.declared.token.Punct.{Punct}
use Rattle.hq_gql_lexer.specs.declared.token.Punct.TheVariants as punct
use Rattle.hq_gql_lexer.specs.declared.token.Token.{Token}
use Rattle.hq_gql_lexer.specs.declared.token.TokenKind.{TokenKind}
use Rattle.hq_gql_lexer.specs.declared.token.TokenKind.TheVariants as kind
use Rattle.hq_gql_lexer.specs.Characters.{next_is, is_line_end, is_name_start, is_name_continue, is_source}
use Rattle.hq_gql_lexer.specs.Escapes.{escape_at}
use Rattle.hq_gql_lexer.specs.Strings.{quotes}
use Rattle.hq_gql_lexer.specs.BlockStrings.{block_value}
use Rattle.hq_gql_lexer.specs.Lexemes.{byte_order_mark, is_ignored, cannot_follow_number}

-- a part that may be left out
abbrev pub IsOptional : (List ℕ → Type 0) → List ℕ → Type 0
IsOptional P text = (text ≡ []) ⊎ P text

-- the text of a punctuator (2.1.8)
abbrev pub punct_text : Punct → List ℕ
punct_text punct.Bang = 33 ∷ []
punct_text punct.Dollar = 36 ∷ []
punct_text punct.Ampersand = 38 ∷ []
punct_text punct.OpenParenthesis = 40 ∷ []
punct_text punct.CloseParenthesis = 41 ∷ []
punct_text punct.Spread = 46 ∷ 46 ∷ 46 ∷ []
punct_text punct.Colon = 58 ∷ []
punct_text punct.Equals = 61 ∷ []
punct_text punct.At = 64 ∷ []
punct_text punct.OpenBracket = 91 ∷ []
punct_text punct.CloseBracket = 93 ∷ []
punct_text punct.OpenBrace = 123 ∷ []
punct_text punct.Pipe = 124 ∷ []
punct_text punct.CloseBrace = 125 ∷ []

-- Name: a name start, and name continues (2.1.9)
abbrev pub IsName : List ℕ → Type 0
IsName [] = ⊥
IsName (b ∷ text) = IsTrue (is_name_start b) × IsTrue (list_all is_name_continue text)

-- one or more digits
abbrev pub IsDigits : List ℕ → Type 0
IsDigits [] = ⊥
IsDigits (b ∷ text) = IsTrue (list_all is_ascii_digit (b ∷ text))

-- digits that begin with no 0, or a 0 alone
abbrev pub IsNatural : List ℕ → Type 0
IsNatural [] = ⊥
IsNatural (b ∷ text) = MatchBool (b == 48) (text ≡ []) (IsDigits (b ∷ text))

-- IntegerPart: the same, which may stand behind a `-` (2.9.1)
abbrev pub IsInteger : List ℕ → Type 0
IsInteger [] = ⊥
IsInteger (b ∷ text) = MatchBool (b == 45) (IsNatural text) (IsNatural (b ∷ text))

-- FractionalPart: a `.` and digits (2.9.2)
abbrev pub IsFraction : List ℕ → Type 0
IsFraction [] = ⊥
IsFraction (b ∷ text) = (b ≡ 46) × IsDigits text

-- digits that may stand behind a sign
abbrev pub IsSignedDigits : List ℕ → Type 0
IsSignedDigits [] = ⊥
IsSignedDigits (b ∷ text) = MatchBool (b == 43 || b == 45) (IsDigits text) (IsDigits (b ∷ text))

-- ExponentPart: an `e` or `E` and the same
abbrev pub IsExponent : List ℕ → Type 0
IsExponent [] = ⊥
IsExponent (b ∷ text) = IsTrue (b == 101 || b == 69) × IsSignedDigits text

-- FloatValue: an IntegerPart with a FractionalPart, an ExponentPart, or both
pub record IsFloat (text : List ℕ) : Type 0 where
  pub whole : List ℕ
  pub fraction : List ℕ
  pub exponent : List ℕ
  pub parts : text ≡ whole ++ (fraction ++ exponent)
  pub is_whole : IsInteger whole
  pub is_fraction : IsOptional IsFraction fraction
  pub is_exponent : IsOptional IsExponent exponent
  pub some : fraction ++ exponent ≢ []

-- SourceCharacter, also past U+FFFF (own)
abbrev pub IsCharacter : ℕ → Type 0
IsCharacter c = IsScalar c × IsTrue (is_source c)

-- What stands behind the opening quote of a plain string, with the closing one, and the value (2.9.4): characters but
-- `"`, `\` and line ends, and escapes.
pub data IsPlainRest : (text value : List ℕ) → Type 0 where
  closed : IsPlainRest (34 ∷ []) []
  character : (c : ℕ) (text value : List ℕ) → IsCharacter c → c ≢ 34 → c ≢ 92 → is_line_end c ≡ false
      → IsPlainRest text value → IsPlainRest (encode_utf8 c ++ text) (encode_utf8 c ++ value)
  escape : (c : ℕ) (behind text value : List ℕ) → escape_at (92 ∷ behind) ≡ Some (c, length (92 ∷ behind))
      → IsPlainRest text value → IsPlainRest (92 ∷ (behind ++ text)) (encode_utf8 c ++ value)

-- What stands behind the opening quotes of a block string, with the closing ones, and the value before its lines are
-- laid out: characters at which no `"""` and no `\"""` begins, and `\"""`.
pub data IsBlockRest : (text raw : List ℕ) → Type 0 where
  closed : IsBlockRest quotes []
  character : (c : ℕ) (text raw : List ℕ) → IsCharacter c
      → starts_with nat_eq (encode_utf8 c ++ text) quotes ≡ false → starts_with nat_eq (encode_utf8 c ++ text) (92 ∷ quotes) ≡ false
      → IsBlockRest text raw → IsBlockRest (encode_utf8 c ++ text) (encode_utf8 c ++ raw)
  escape : (text raw : List ℕ) → IsBlockRest text raw → IsBlockRest (92 ∷ (quotes ++ text)) (quotes ++ raw)

-- a string in one quote; an empty one is followed by no quote
pub record IsPlainString (text next value : List ℕ) : Type 0 where
  pub rest : List ℕ
  pub opened : text ≡ 34 ∷ rest
  pub is_rest : IsPlainRest rest value
  pub not_block : rest ≡ 34 ∷ [] → next_is (λ b. b == 34) next ≡ false

-- a string in three quotes
pub record IsBlockString (text value : List ℕ) : Type 0 where
  pub rest : List ℕ
  pub raw : List ℕ
  pub opened : text ≡ quotes ++ rest
  pub is_rest : IsBlockRest rest raw
  pub laid_out : value ≡ block_value raw

-- which bytes are which token, before what follows (2.1.6)
abbrev pub IsToken : List ℕ → (next : List ℕ) → TokenKind → Type 0
IsToken text next (kind.Punct p) = text ≡ punct_text p
IsToken text next (kind.Name name) = (name ≡ text) × IsName text × (next_is is_name_continue next ≡ false)
IsToken text next (kind.Int number) = (number ≡ text) × IsInteger text × (next_is cannot_follow_number next ≡ false)
IsToken text next (kind.Float number) = (number ≡ text) × IsFloat text × (next_is cannot_follow_number next ≡ false)
IsToken text next (kind.Str value) = IsPlainString text next value ⊎ IsBlockString text value

-- what a comment holds behind its `#` (2.1.4)
pub data IsCommentRest : List ℕ → Type 0 where
  nothing : IsCommentRest []
  character : (c : ℕ) (text : List ℕ) → IsCharacter c → is_line_end c ≡ false → IsCommentRest text → IsCommentRest (encode_utf8 c ++ text)

-- a comment goes up to its line's end
pub record IsComment (text next : List ℕ) : Type 0 where
  pub rest : List ℕ
  pub opened : text ≡ 35 ∷ rest
  pub is_rest : IsCommentRest rest
  pub ends : (next ≡ []) ⊎ IsTrue (next_is is_line_end next)

-- white space, a line end, a comma, the byte order mark, or a comment (2.1.7)
abbrev pub IsIgnored : List ℕ → (next : List ℕ) → Type 0
IsIgnored text next = ((b : ℕ) × (text ≡ b ∷ []) × IsTrue (is_ignored b)) ⊎ ((text ≡ byte_order_mark) ⊎ IsComment text next)

-- The text from a place on is these tokens, with what is ignored between them.
pub data Lexes : (at : ℕ) → List ℕ → List Token → Type 0 where
  nothing : (at : ℕ) → Lexes at [] []
  ignored : (at : ℕ) (text next : List ℕ) (tokens : List Token) → IsIgnored text next
      → Lexes (at + length text) next tokens → Lexes at (text ++ next) tokens
  token : (at : ℕ) (k : TokenKind) (text next : List ℕ) (tokens : List Token) → IsToken text next k
      → Lexes (at + length text) next tokens → Lexes at (text ++ next) (record { from = at; to = at + length text; kind = k } ∷ tokens)
