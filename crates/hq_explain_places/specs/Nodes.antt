-- Where the values of a JSON text stand (RFC 8259, sections 2, 4, 5 and 7), told by what of the text is left there, and which of them a path
-- such as `$.tables[0].name` leads to.
use Rattle.std.specs.Prelude.{ℕ, zero, suc, ◌+◌, ◌-◌, ◌==◌, ◌&&◌, ◌||◌, Bool, true, false, nat_eq, List, [], ◌∷◌, length, take, drop, take_while, codes, decimal, Option, Some, None, option_map, option_and_then, unwrap_or, if◌then◌else◌}
use Rattle.std.specs.Option.{option_map_or}
use Rattle.hq_base.specs.Text.{after}
use Rattle.hq_explain_places.specs.Records.{behind_byte, part}
use Rattle.hq_explain_places.specs.declared.quoted.Quoted.{Quoted}
use Rattle.hq_explain_places.specs.declared.quoted.Quoted.TheVariants.{Outside, Inside, Escaped}

-- a text behind the blanks that it begins with
abbrev pub is_blank : ℕ → Bool
is_blank b = (b == 32) || (b == 10) || (b == 13) || (b == 9)

abbrev pub blank_length : List ℕ → ℕ
blank_length text = length (take_while is_blank text)

abbrev pub unblanked : List ℕ → List ℕ
unblanked text = drop (blank_length text) text

-- whether a string is open behind a byte, and whether the next byte of it is escaped
abbrev pub quoted_after : Quoted → ℕ → Quoted
quoted_after Outside b = if b == 34 then Inside else Outside
quoted_after Inside b = if b == 34 then Outside else (if b == 92 then Escaped else Inside)
quoted_after Escaped b = Inside

abbrev pub is_outside : Quoted → Bool
is_outside Outside = true
is_outside Inside = false
is_outside Escaped = false

-- how many brackets are open behind a byte
abbrev pub is_opening : ℕ → Bool
is_opening b = (b == 123) || (b == 91)

abbrev pub is_closing : ℕ → Bool
is_closing b = (b == 125) || (b == 93)

abbrev pub open_after : Quoted → (open_count : ℕ) → ℕ → ℕ
open_after q open_count b = if is_outside q && is_opening b then open_count + 1 else (if is_outside q && is_closing b then open_count - 1 else open_count)

-- A value ends behind the bracket or the quote that leaves nothing of it open, or, where that is a number or a word, before what ends those.
abbrev pub ends_word : ℕ → Bool
ends_word b = (b == 44) || is_closing b || is_blank b

abbrev pub ends_before : Quoted → (open_count : ℕ) → ℕ → Bool
ends_before q open_count b = is_outside q && nat_eq open_count 0 && ends_word b

abbrev pub ends_behind : Quoted → (open_count : ℕ) → ℕ → Bool
ends_behind q open_count b = is_outside (quoted_after q b) && nat_eq (open_after q open_count b) 0 && (is_closing b || (b == 34))

-- a text from the end of the value on, of which so many brackets and perhaps a string are open
abbrev pub behind_value : Quoted → (open_count : ℕ) → List ℕ → List ℕ
behind_value q open_count [] = []
behind_value q open_count (b ∷ bs) =
    if ends_before q open_count b then b ∷ bs
    else (if ends_behind q open_count b then bs else behind_value (quoted_after q b) (open_after q open_count b) bs)

-- the value that a text begins with, and what follows it
abbrev pub value_text : List ℕ → List ℕ
value_text text = part text (behind_value Outside 0 text)

abbrev pub behind_comma : List ℕ → Option (List ℕ)
behind_comma text = behind_byte 44 (unblanked (behind_value Outside 0 text))

-- what of a path stands behind a member's name, or an element's number, where that is the next of it
abbrev pub begins_step : List ℕ → Bool
begins_step [] = true
begins_step (b ∷ bs) = (b == 46) || (b == 91)

abbrev pub if_step : List ℕ → Option (List ℕ)
if_step path = if begins_step path then Some path else None

abbrev pub behind_member : (path name : List ℕ) → Option (List ℕ)
behind_member path name = option_and_then if_step (option_and_then (after name) (after (codes ".") path))

abbrev pub behind_element : (path : List ℕ) (number : ℕ) → Option (List ℕ)
behind_element path number = option_and_then (after (codes "]")) (option_and_then (after (decimal number)) (after (codes "[") path))

-- The entry that a list or an object goes on with: the text from its value on, and what of the path stands behind its name or number.
abbrev pub Entry : Type 0
Entry = List ℕ × Option (List ℕ)

abbrev pub element_entry : (path : List ℕ) (number : ℕ) → List ℕ → Option Entry
element_entry path number [] = None
element_entry path number (b ∷ bs) = if is_closing b then None else Some (b ∷ bs, behind_element path number)

-- a name, which stands in quotes
abbrev pub name_in : List ℕ → List ℕ
name_in text = let quoted = value_text text in drop 1 (take (length quoted - 1) quoted)

abbrev pub member_entry : (path : List ℕ) → List ℕ → Option Entry
member_entry path text = option_map (λ rest. (unblanked rest, behind_member path (name_in text))) (behind_byte 58 (unblanked (behind_value Outside 0 text)))

abbrev pub entry_at : (is_list : Bool) (path : List ℕ) (number : ℕ) → List ℕ → Option Entry
entry_at true path number text = element_entry path number text
entry_at false path number text = member_entry path text

-- a node on the way: the text from its value on, and what of the path is still to be found in it
abbrev pub Node : Type 0
Node = List ℕ × List ℕ

abbrev pub taken : Option Node → Entry → Option Node
taken found e = option_map_or (λ path. Some (e.0, path)) e.1 found

-- The last entry that is next in a path, of those that a list or an object goes on with, so many at most; `found` is the one before.
abbrev pub entries : ℕ → (is_list : Bool) (path : List ℕ) (number : ℕ) → List ℕ → Option Node → Option Node
entries zero is_list path number text found = found
entries (suc most) is_list path number text found =
    option_map_or
    (λ e. option_map_or (λ later. entries most is_list path (number + 1) later (taken found e)) (behind_comma e.0) (taken found e))
    (entry_at is_list path number (unblanked text)) found

-- what a path leads to in the value that a text begins with
abbrev pub child : (text path : List ℕ) → Option Node
child [] path = None
child (b ∷ bs) path = if is_opening b then entries (length bs) (b == 91) path 0 bs None else None

-- the node that a path leads to, or the last one on the way, so many steps at most
abbrev pub node : ℕ → Node → Node
node zero n = n
node (suc most) n = option_map_or (node most) (child n.0 n.1) n

-- a path without the `$` that stands for the whole text
abbrev pub inner_path : List ℕ → List ℕ
inner_path path = unwrap_or (after (codes "$") path) path

abbrev pub node_at : (text path : List ℕ) → Node
node_at text path = node (length (inner_path path)) (unblanked text, inner_path path)
