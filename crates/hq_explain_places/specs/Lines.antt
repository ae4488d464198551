-- Lines and columns of a text. A line ends at a line feed; a column is a character of UTF-8 (RFC 3629, section 3: the bytes from 128
-- to 191 are those inside a character). Both are counted from 1.
use Rattle.std.specs.Prelude.{ℕ, List, Bool, ◌+◌, ◌-◌, ◌||◌, not, filter, length, nat_eq, nat_lt, nat_le, reverse, take, drop, take_while}

-- whether a byte ends a line, and whether it is the first of a character
abbrev pub is_line_end : ℕ → Bool
is_line_end b = nat_eq b 10

abbrev pub begins_character : ℕ → Bool
begins_character b = nat_lt b 128 || nat_le 192 b

-- the bytes behind the last line end of these, from the last to the first
abbrev pub behind_last_end : List ℕ → List ℕ
behind_last_end front = take_while (λ b. not (is_line_end b)) (reverse front)

-- how many lines end in these bytes, and how many characters begin behind the last of these ends
abbrev pub ends_in : List ℕ → ℕ
ends_in front = length (filter is_line_end front)

abbrev pub characters_in : List ℕ → ℕ
characters_in front = length (filter begins_character (behind_last_end front))

-- the line and the column of the byte at a place
abbrev pub line_of : List ℕ → (at : ℕ) → ℕ
line_of text at = ends_in (take at text) + 1

abbrev pub column_of : List ℕ → (at : ℕ) → ℕ
column_of text at = characters_in (take at text) + 1

-- how many bytes stand behind the last line end of these, and before the first
abbrev pub length_before : List ℕ → ℕ
length_before front = length (behind_last_end front)

abbrev pub length_behind : List ℕ → ℕ
length_behind rest = length (take_while (λ b. not (is_line_end b)) rest)

-- the line around a place, without its line end: what of it stands before the place, and what from there on
abbrev pub line_before : List ℕ → (at : ℕ) → List ℕ
line_before text at = let front = take at text in drop (length front - length_before front) front

abbrev pub line_behind : List ℕ → (at : ℕ) → List ℕ
line_behind text at = let rest = drop at text in take (length_behind rest) rest
