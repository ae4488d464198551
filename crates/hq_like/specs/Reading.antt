-- Characters as LIKE and ILIKE compare them (PostgreSQL, pattern matching).
use Rattle.std.specs.Prelude.{ℕ, List, map, Bool, if◌then◌else◌}
use Rattle.std.specs.Str.{chars}
use Rattle.std.specs.Char.{to_ascii_lowercase}

-- a character as it is compared: under fold the letters A to Z as a to z
abbrev pub read_letter : (fold : Bool) → ℕ → ℕ
read_letter fold c = if fold then to_ascii_lowercase c else c

-- the characters of a text as they are compared
abbrev pub read : (fold : Bool) → List ℕ → List ℕ
read fold text = map (read_letter fold) (chars text)
