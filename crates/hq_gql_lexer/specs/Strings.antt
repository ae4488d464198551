-- Strings (GraphQL October 2021, 2.9.4).
use Rattle.std.specs.Prelude.{ℕ, zero, suc, ◌+◌, ◌-◌, List, [], ◌∷◌, take, length, Bool, not, ◌&&◌, ◌==◌, nat_eq, nat_lt, Option, Some, None, Result, Ok, Err, if◌then◌else◌, option_map, encode_utf8}
use Rattle.std.specs.List.{starts_with}
use Rattle.std.specs.Str.Lossy.{utf8_valid_len}
use Rattle.hq_gql_lexer.specs.declared.characters.StringKind.{StringKind}
use Rattle.hq_gql_lexer.specs.declared.characters.StringKind.TheVariants.{Plain, Block}
use Rattle.hq_gql_lexer.specs.declared.refusal.LexRefusal.{LexRefusal}
use Rattle.hq_gql_lexer.specs.declared.refusal.LexRefusal.TheVariants.{BadByte, BadEscape, NotUtf8}
use Rattle.hq_gql_lexer.specs.Characters.{next_is, is_source, is_line_end}
use Rattle.hq_gql_lexer.specs.Escapes.{escape_at}
use Rattle.hq_base.specs.Due.{◌>>=◌}
use Rattle.hq_gql_lexer.specs.Steps.{Step, steps}

-- three quotes
abbrev pub quotes : List ℕ
quotes = 34 ∷ 34 ∷ 34 ∷ []

-- How many bytes stand before the closing quote of a plain string, where it is closed before its line's end. A quote
-- that a `\` has taken closes nothing.
abbrev pub plain_len : (taken : Bool) → List ℕ → Option ℕ
plain_len taken [] = None
plain_len taken (b ∷ bytes) =
    if is_line_end b then None
    else (if not taken && b == 34 then Some 0
    else option_map (λ n. 1 + n) (plain_len (not taken && b == 92) bytes))

-- how many bytes a `\"""` takes, or else a byte
abbrev pub block_step : List ℕ → ℕ
block_step bytes = if starts_with nat_eq bytes (92 ∷ quotes) then 4 else 1

-- How many bytes stand before the closing `"""` of a block string. The first bytes may be taken by a `\"""`, which
-- closes nothing.
abbrev pub block_len : (taken : ℕ) → List ℕ → Option ℕ
block_len taken [] = None
block_len (suc taken) (b ∷ bytes) = option_map (λ n. 1 + n) (block_len taken bytes)
block_len zero (b ∷ bytes) =
    if starts_with nat_eq (b ∷ bytes) quotes then Some 0
    else option_map (λ n. 1 + n) (block_len (block_step (b ∷ bytes) - 1) bytes)

-- a byte of a character that stands for itself
abbrev pub source_at : Step (List ℕ)
source_at at bytes = if next_is is_source bytes then Ok (take 1 bytes, 1) else Err (BadByte at)

-- the bytes of an escape's character
abbrev pub escaped : ℕ → Option (ℕ × ℕ) → Result (List ℕ × ℕ) LexRefusal
escaped at None = Err (BadEscape at)
escaped at (Some c) = Ok (encode_utf8 c.0, c.1)

-- a byte or an escape of a plain string, a byte or a `\"""` of a block string
unfoldable pub character_at : StringKind → Step (List ℕ)
character_at Plain at bytes =
    if next_is (λ b. b == 92) bytes then escaped at (escape_at bytes) else source_at at bytes
character_at Block at bytes =
    if starts_with nat_eq bytes (92 ∷ quotes) then Ok (quotes, 4) else source_at at bytes

-- What the characters between a string's quotes stand for, from the place of the first on. Where the bytes are not
-- UTF-8, that holds behind those that are.
unfoldable pub characters : StringKind → ℕ → List ℕ → Result (List ℕ) LexRefusal
characters string_kind at bytes =
    let valid = utf8_valid_len bytes in
    steps (character_at string_kind) 0 at (take valid bytes) >>= λ value.
    if nat_lt valid (length bytes) then Err (NotUtf8 (at + valid)) else Ok value
