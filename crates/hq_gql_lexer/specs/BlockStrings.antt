-- The value of a block string (GraphQL October 2021, 2.9.4, BlockStringValue).
use Rattle.std.specs.Prelude.{ℕ, ◌-◌, min, List, [], ◌∷◌, take, drop, length, map, Bool, ◌==◌, Option, Some, None, if◌then◌else◌, unwrap_or}
use Rattle.std.specs.List.{prefix_len, suffix_len, join_with_byte}
use Rattle.hq_gql_lexer.specs.Characters.{next_is, is_white_space}

-- a byte put before the first line
abbrev pub onto_first : ℕ → List (List ℕ) → List (List ℕ)
onto_first b [] = (b ∷ []) ∷ []
onto_first b (line ∷ lines) = (b ∷ line) ∷ lines

-- the lines of a text: a line feed, a carriage return, or both in this order end one
abbrev pub lines_of : List ℕ → List (List ℕ)
lines_of [] = [] ∷ []
lines_of (b ∷ bytes) =
    if b == 10 then [] ∷ lines_of bytes
    else (if b == 13 then (if next_is (λ c. c == 10) bytes then lines_of bytes else [] ∷ lines_of bytes)
    else onto_first b (lines_of bytes))

-- how much white space a line begins with; white space is one byte each
abbrev pub indent_of : List ℕ → ℕ
indent_of line = prefix_len is_white_space line

-- a line of white space alone
abbrev pub is_blank : List ℕ → Bool
is_blank line = indent_of line == length line

-- the lesser of a number and one that there may be
abbrev pub lesser : ℕ → Option ℕ → Option ℕ
lesser n None = Some n
lesser n (Some m) = Some (min n m)

-- the least indentation of a line that is not blank
abbrev pub common_indent : List (List ℕ) → Option ℕ
common_indent [] = None
common_indent (line ∷ lines) = if is_blank line then common_indent lines else lesser (indent_of line) (common_indent lines)

-- all lines but the first without the indentation that they have in common
abbrev pub dedented : List (List ℕ) → List (List ℕ)
dedented [] = []
dedented (first ∷ lines) = first ∷ map (drop (unwrap_or (common_indent lines) 0)) lines

-- the lines without the blank ones in front
abbrev pub without_blank_front : List (List ℕ) → List (List ℕ)
without_blank_front lines = drop (prefix_len is_blank lines) lines

-- the lines without the blank ones at the end
abbrev pub without_blank_back : List (List ℕ) → List (List ℕ)
without_blank_back lines = take (length lines - suffix_len is_blank lines) lines

-- what stands between the quotes, without the common indentation and the blank ends, a line feed between each two lines
unfoldable pub block_value : List ℕ → List ℕ
block_value raw = join_with_byte 10 (without_blank_back (without_blank_front (dedented (lines_of raw))))
