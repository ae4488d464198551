-- Tokens, and what is ignored between them (GraphQL October 2021, section 2.1).
use Rattle.std.specs.Prelude.{ℕ, ◌+◌, List, [], ◌∷◌, take, drop, Bool, false, not, ◌&&◌, ◌||◌, ◌==◌, nat_eq, nat_lt, Option, Some, None, Result, Ok, Err, if◌then◌else◌}
use Rattle.std.specs.List.{starts_with, prefix_len}
use Rattle.std.specs.Char.{is_ascii_digit}
use Rattle.std.specs.Option.{ok_or}
use Rattle.std.specs.Str.Lossy.{utf8_valid_len}
use Rattle.hq_gql_lexer.specs.declared.characters.StringKind.TheVariants.{Plain, Block}
use Rattle.hq_gql_lexer.specs.declared.refusal.LexRefusal.{LexRefusal}
use Rattle.hq_gql_lexer.specs.declared.refusal.LexRefusal.TheVariants.{BadByte, OpenString, BadNumber, NotUtf8}
use Rattle.hq_gql_lexer.specs.declared.token.Punct.{Punct}
use Rattle.hq_gql_lexer.specs.declared.token.Punct.TheVariants as punct
use Rattle.hq_gql_lexer.specs.declared.token.Token.{Token}
use Rattle.hq_gql_lexer.specs.declared.token.TokenKind.{TokenKind}
use Rattle.hq_gql_lexer.specs.declared.token.TokenKind.TheVariants as kind
use Rattle.hq_gql_lexer.specs.Characters.{next_is, is_line_end, is_white_space, is_name_start, is_name_continue, is_source}
use Rattle.hq_gql_lexer.specs.Numbers.{integer_len, number_len}
use Rattle.hq_gql_lexer.specs.Strings.{quotes, plain_len, block_len, characters}
use Rattle.hq_gql_lexer.specs.BlockStrings.{block_value}
use Rattle.hq_base.specs.Due.{◌>>=◌}
use Rattle.hq_gql_lexer.specs.Steps.{Step, steps}

-- How many bytes a comment takes behind its `#`, up to its line's end (2.1.4). It is refused at the first character
-- that it cannot hold, or where its bytes are not UTF-8.
unfoldable pub comment_at : ℕ → List ℕ → Result ℕ LexRefusal
comment_at at bytes =
    let n = prefix_len (λ b. not (is_line_end b)) bytes in
    let valid = utf8_valid_len (take n bytes) in
    let good = prefix_len is_source (take valid (take n bytes)) in
    if nat_lt good valid then Err (BadByte (at + good))
    else (if nat_lt valid n then Err (NotUtf8 (at + valid)) else Ok n)

-- the byte order mark (2.1.1)
abbrev pub byte_order_mark : List ℕ
byte_order_mark = 0xEF ∷ 0xBB ∷ 0xBF ∷ []

-- white space, a line end or a comma (2.1.2, 2.1.3, 2.1.5)
abbrev pub is_ignored : ℕ → Bool
is_ignored b = is_white_space b || is_line_end b || b == 44

-- how many ignored bytes stand at the front, where there are any (2.1.7)
unfoldable pub ignored_at : ℕ → List ℕ → Result (Option ℕ) LexRefusal
ignored_at at bytes =
    if next_is (λ b. b == 35) bytes then (comment_at (at + 1) (drop 1 bytes) >>= λ n. Ok (Some (n + 1)))
    else (if starts_with nat_eq bytes byte_order_mark then Ok (Some 3)
    else (if next_is is_ignored bytes then Ok (Some 1) else Ok None))

-- the punctuator of one byte (2.1.8)
unfoldable pub punct_of : ℕ → Option Punct
punct_of b =
    if b == 33 then Some punct.Bang
    else (if b == 36 then Some punct.Dollar
    else (if b == 38 then Some punct.Ampersand
    else (if b == 40 then Some punct.OpenParenthesis
    else (if b == 41 then Some punct.CloseParenthesis
    else (if b == 58 then Some punct.Colon
    else (if b == 61 then Some punct.Equals
    else (if b == 64 then Some punct.At
    else (if b == 91 then Some punct.OpenBracket
    else (if b == 93 then Some punct.CloseBracket
    else (if b == 123 then Some punct.OpenBrace
    else (if b == 124 then Some punct.Pipe
    else (if b == 125 then Some punct.CloseBrace else None))))))))))))

-- a punctuator of one byte
abbrev pub one_byte : Option Punct → Option (Punct × ℕ)
one_byte None = None
one_byte (Some p) = Some (p, 1)

-- the punctuator at the front, and how many bytes it takes: the longest
unfoldable pub punct_at : List ℕ → Option (Punct × ℕ)
punct_at [] = None
punct_at (b ∷ bytes) =
    if starts_with nat_eq (b ∷ bytes) (46 ∷ 46 ∷ 46 ∷ []) then Some (punct.Spread, 3) else one_byte (punct_of b)

-- what a token is, and how many bytes it takes
abbrev pub Reader : Type 0
Reader = ℕ → List ℕ → Result (TokenKind × ℕ) LexRefusal

-- a name and all that goes on with it (2.1.9)
unfoldable pub name_at : List ℕ → Result (TokenKind × ℕ) LexRefusal
name_at bytes = let n = prefix_len is_name_continue bytes in Ok (kind.Name (take n bytes), n)

-- a number starts with a digit, or with a `-` before one
abbrev pub starts_number : List ℕ → Bool
starts_number bytes = next_is is_ascii_digit bytes || next_is (λ b. b == 45) bytes && next_is is_ascii_digit (drop 1 bytes)

-- what may not follow a number: a digit, a `.` or the start of a name (2.9.1, 2.9.2)
abbrev pub cannot_follow_number : ℕ → Bool
cannot_follow_number b = is_ascii_digit b || b == 46 || is_name_start b

-- a number is whole where it has no fraction and no exponent
abbrev pub number_kind : (whole : Bool) → List ℕ → TokenKind
number_kind whole text = if whole then kind.Int text else kind.Float text

-- the number at the front, refused where something stands behind it that may not follow
unfoldable pub number_at : Reader
number_at at bytes =
    let n = number_len bytes in
    if next_is cannot_follow_number (drop n bytes) then Err (BadNumber at) else Ok (number_kind (n == integer_len bytes) (take n bytes), n)

-- a string in one quote: its closing one is looked for first
unfoldable pub plain_at : Reader
plain_at at bytes =
    ok_or (plain_len false (drop 1 bytes)) (OpenString at) >>= λ n.
    characters Plain (at + 1) (take n (drop 1 bytes)) >>= λ value.
    Ok (kind.Str value, n + 2)

-- a string in three quotes
unfoldable pub block_at : Reader
block_at at bytes =
    ok_or (block_len 0 (drop 3 bytes)) (OpenString at) >>= λ n.
    characters Block (at + 3) (take n (drop 3 bytes)) >>= λ raw.
    Ok (kind.Str (block_value raw), n + 6)

-- a string: in three quotes where three are next
unfoldable pub string_at : Reader
string_at at bytes = if starts_with nat_eq bytes quotes then block_at at bytes else plain_at at bytes

-- a punctuator, or else the other answer
abbrev pub punct_or : Option (Punct × ℕ) → Result (TokenKind × ℕ) LexRefusal → Result (TokenKind × ℕ) LexRefusal
punct_or None other = other
punct_or (Some p) other = Ok (kind.Punct p.0, p.1)

-- the token at the front (2.1.6)
unfoldable pub token_at : Reader
token_at at bytes =
    punct_or (punct_at bytes)
    (if starts_number bytes then number_at at bytes
    else (if next_is (λ b. b == 34) bytes then string_at at bytes
    else (if next_is is_name_start bytes then name_at bytes
    else Err (BadByte at))))

-- what is ignored, or else the token
abbrev pub ignored_or : Option ℕ → Result (TokenKind × ℕ) LexRefusal → Result (Option TokenKind × ℕ) LexRefusal
ignored_or (Some n) other = Ok (None, n)
ignored_or None other = other >>= λ t. Ok (Some t.0, t.1)

-- what stands at the front, None where it is ignored, and how many bytes it takes
unfoldable pub lexeme_at : Step (Option TokenKind)
lexeme_at at bytes = ignored_at at bytes >>= λ n. ignored_or n (token_at at bytes)

-- the token of a lexeme, if it is one
abbrev pub tokens_in : ℕ → Option TokenKind → ℕ → List Token
tokens_in at None n = []
tokens_in at (Some k) n = record { from = at; to = at + n; kind = k } ∷ []

-- the token at the front, if it is one, and how many bytes are taken
abbrev pub tokens_at : Step (List Token)
tokens_at at bytes = lexeme_at at bytes >>= λ l. Ok (tokens_in at l.0 l.1, l.1)

-- the tokens of a text, from the left
unfoldable pub tokens_of : List ℕ → Result (List Token) LexRefusal
tokens_of text = steps tokens_at 0 0 text
