-- The compact text of a JSON value: no space between its parts, and in names and texts the escapes that serde_json
-- writes (RFC 8259, section 7).
use Rattle.std.specs.Prelude.{ℕ, ◌/◌, ◌%◌, ◌==◌, ◌||◌, nat_lt, List, [], ◌∷◌, ◌++◌, Option, Some, None, if◌then◌else◌, codes}
use Rattle.std.specs.List.{flat_map, join_with_byte}
use Rattle.std.specs.Char.{digit_char}
use Rattle.std.specs.Fmt.{signed_decimal}
use Rattle.hq_base.specs.Json.{JsonTree, null, bool, int, str, arr, obj, ElementTrees, no_element, element, MemberTrees, no_member, member}

-- the letter of a byte's short escape: the quote and the backslash are their own, the others are b f n r t
abbrev pub short_escape : ℕ → Option ℕ
short_escape byte =
    if (byte == 34) || (byte == 92) then Some byte else
    (if byte == 8 then Some 98 else
    (if byte == 12 then Some 102 else
    (if byte == 10 then Some 110 else
    (if byte == 13 then Some 114 else
    (if byte == 9 then Some 116 else None)))))

-- what stands for a byte that has no short escape: another control character is \u00 and two hexadecimal digits
abbrev pub unless_short : ℕ → Option ℕ → List ℕ
unless_short byte (Some letter) = 92 ∷ letter ∷ []
unless_short byte None = if nat_lt byte 32 then codes "\\u00" ++ digit_char (byte / 16) ∷ digit_char (byte % 16) ∷ [] else byte ∷ []

-- what stands for a byte of a name or text
unfoldable pub escaped : ℕ → List ℕ
escaped byte = unless_short byte (short_escape byte)

-- a name or text in quotes
abbrev pub quoted : List ℕ → List ℕ
quoted text = 34 ∷ (flat_map escaped text ++ 34 ∷ [])

abbrev mutual
  pub compact : JsonTree → List ℕ
  compact null = codes "null"
  compact (bool b) = if b then codes "true" else codes "false"
  compact (int n) = signed_decimal n
  compact (str s) = quoted s
  compact (arr js) = 91 ∷ (join_with_byte 44 (element_texts js) ++ 93 ∷ [])
  compact (obj ms) = 123 ∷ (join_with_byte 44 (member_texts ms) ++ 125 ∷ [])

  pub element_texts : ElementTrees → List (List ℕ)
  element_texts no_element = []
  element_texts (element j js) = compact j ∷ element_texts js

  pub member_texts : MemberTrees → List (List ℕ)
  member_texts no_member = []
  member_texts (member name j ms) = (quoted name ++ 58 ∷ compact j) ∷ member_texts ms
