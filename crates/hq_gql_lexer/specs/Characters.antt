-- Classes of characters (GraphQL October 2021, section 2.1). A character past U+007F has bytes of 128 and more alone.
use Rattle.std.specs.Prelude.{ℕ, List, [], ◌∷◌, Bool, false, ◌||◌, ◌==◌, nat_le}
use Rattle.std.specs.Char.{is_ascii_alphabetic, is_ascii_digit}

-- a line end: line feed or carriage return (2.1.3)
abbrev pub is_line_end : ℕ → Bool
is_line_end b = b == 10 || b == 13

-- white space: tab or space (2.1.2)
abbrev pub is_white_space : ℕ → Bool
is_white_space b = b == 9 || b == 32

-- a byte of a character that a text may hold: no control character but tab and the line ends (2.1)
abbrev pub is_source : ℕ → Bool
is_source b = b == 9 || is_line_end b || nat_le 32 b

-- a letter or `_` (2.1.9)
abbrev pub is_name_start : ℕ → Bool
is_name_start b = is_ascii_alphabetic b || b == 95

-- a letter, `_` or a digit
abbrev pub is_name_continue : ℕ → Bool
is_name_continue b = is_name_start b || is_ascii_digit b

-- a byte is next, and of this class
abbrev pub next_is : (ℕ → Bool) → List ℕ → Bool
next_is p [] = false
next_is p (b ∷ bytes) = p b
