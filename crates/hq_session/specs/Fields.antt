-- Header fields (RFC 9110, sections 5.1, 5.5 and 5.6.2): a name, which is a token and is compared without regard to case,
-- and a value without the spaces and tabs around it.
use Rattle.std.specs.Prelude.{ℕ, List, [], ◌∷◌, map, reverse, length, Bool, cond, ◌&&◌, ◌||◌, ◌==◌, nat_lt, Option, Some, None, codes}
use Rattle.std.specs.Char.{is_ascii_alphanumeric, to_ascii_lowercase}
use Rattle.std.specs.List.{list_all, list_any, before_first, after_first}
use Rattle.hq_session.specs.declared.header.Header.{Header}

-- a character of a token
unfoldable pub is_token_byte : ℕ → Bool
is_token_byte b = is_ascii_alphanumeric b || list_any (λ c. c == b) (codes "!#$%&'*+-.^_`|~")

-- a token: one such character or more
abbrev pub is_token : List ℕ → Bool
is_token bytes = nat_lt 0 (length bytes) && list_all is_token_byte bytes

-- a space or a tab
abbrev pub is_blank : ℕ → Bool
is_blank b = (b == 32) || (b == 9)

abbrev pub is_colon : ℕ → Bool
is_colon b = b == 58

-- what follows the blank that a text begins with, where it begins with one
abbrev pub behind_blank : List ℕ → Option (List ℕ)
behind_blank [] = None
behind_blank (b ∷ bs) = cond (is_blank b) (Some bs) None

-- what follows the blanks that a text begins with
abbrev pub behind_blanks : List ℕ → List ℕ
behind_blanks [] = []
behind_blanks (b ∷ bs) = cond (is_blank b) (behind_blanks bs) (b ∷ bs)

-- a text without the blanks at both ends
abbrev pub trimmed : List ℕ → List ℕ
trimmed text = reverse (behind_blanks (reverse (behind_blanks text)))

-- the letters A to Z as a to z
abbrev pub lowered : List ℕ → List ℕ
lowered name = map to_ascii_lowercase name

-- a header of this name and value, where the name is a token
abbrev pub header_of : (name value : List ℕ) → Option Header
header_of name value = cond (is_token name) (Some (record { name = lowered name; value = trimmed value })) None

-- the header that a text writes, `name: value`: the name is what stands before the first colon
abbrev pub header_in : List ℕ → Option Header
header_in text = cond (list_any is_colon text) (header_of (before_first is_colon text) (after_first is_colon text)) None
