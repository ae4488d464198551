-- The text of a uuid (PostgreSQL, UUID type). Its one form has 32 digits of hexadecimal in small letters, in groups of 8, 4, 4, 4 and 12
-- with a hyphen between two. What is read has such digits in either case, braces around them or none, and a hyphen or none between
-- two groups of four.
use Rattle.std.specs.Prelude.{ℕ, ◌+◌, ◌-◌, ◌%◌, List, [], ◌∷◌, length, Bool, cond, ◌&&◌, ◌||◌, ◌==◌, nat_lt, nat_le, Option, Some, None, slice_index, slice_range}
use Rattle.std.specs.Char.{is_ascii_digit, is_ascii_hexdigit, to_ascii_lowercase}
use Rattle.std.specs.Int.{is_in_range}
use Rattle.std.specs.List.{list_all, enumerate_from}

-- ---- the one form

-- a digit of hexadecimal that is no capital
abbrev pub is_small_hex : ℕ → Bool
is_small_hex c = is_ascii_digit c || is_in_range 97 102 c

-- the places of the hyphens
abbrev pub is_hyphen_place : (at : ℕ) → Bool
is_hyphen_place at = (at == 8) || (at == 13) || (at == 18) || (at == 23)

-- a byte at its place: a hyphen, or a digit
abbrev pub is_placed : (at : ℕ) → ℕ → Bool
is_placed at c = cond (is_hyphen_place at) (c == 45) (is_small_hex c)

-- a text in the one form
abbrev pub is_uuid_form : List ℕ → Bool
is_uuid_form s = (length s == 36) && list_all (λ p. is_placed p.0 p.1) (enumerate_from 0 s)

-- ---- what is read

-- the text has a brace at both ends
abbrev pub is_braced : List ℕ → Bool
is_braced s = nat_le 2 (length s) && (slice_index s 0 == 123) && (slice_index s (length s - 1) == 125)

-- what stands between its braces, or the text itself
abbrev pub within_braces : List ℕ → List ℕ
within_braces s = cond (is_braced s) (slice_range s 1 (length s - 1)) s

-- so many digits are one group of four, or several
abbrev pub are_groups : (digits : ℕ) → Bool
are_groups digits = nat_lt 0 digits && ((digits % 4) == 0)

-- the place in the form behind the digit that stands there next, which a hyphen may come before
abbrev pub next_place : (at : ℕ) → ℕ
next_place at = cond (is_hyphen_place at) (at + 2) (at + 1)

-- The text goes on as that of a uuid: its digits fill the form from a place on, and so many of those before stand behind the last hyphen.
abbrev pub spells_from : (at since : ℕ) → List ℕ → Bool
spells_from at since [] = (at == 36) && are_groups since
spells_from at since (c ∷ cs) =
    cond (c == 45) (are_groups since && spells_from at 0 cs) (nat_lt at 36 && is_ascii_hexdigit c && spells_from (next_place at) (since + 1) cs)

-- a digit in either case, or a hyphen: no other byte stands within the braces
abbrev pub is_digit_or_hyphen : ℕ → Bool
is_digit_or_hyphen c = (c == 45) || is_ascii_hexdigit c

-- the text is read as a uuid
abbrev pub spells_uuid : List ℕ → Bool
spells_uuid s = spells_from 0 0 (within_braces s)

-- a digit at its place in the form, small, and what follows it: the hyphen that comes before it is written
abbrev pub with_digit : (at : ℕ) → ℕ → List ℕ → List ℕ
with_digit at c form = cond (is_hyphen_place at) (45 ∷ to_ascii_lowercase c ∷ form) (to_ascii_lowercase c ∷ form)

-- the form of these digits from a place on; hyphens among them are passed over
abbrev pub form_from : (at : ℕ) → List ℕ → List ℕ
form_from at [] = []
form_from at (c ∷ cs) = cond (c == 45) (form_from at cs) (with_digit at c (form_from (next_place at) cs))

-- the one form of the uuid that a text is read as
abbrev pub uuid_form : List ℕ → Option (List ℕ)
uuid_form s = cond (spells_uuid s) (Some (form_from 0 (within_braces s))) None
