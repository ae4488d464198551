-- The records and fields of a table file, as csv takes them apart by its defaults (RFC 4180, section 2): a record ends at a line end outside
-- quotes, a field also at a comma outside quotes, and a line end before a record is of none. Texts are told by what is left of the file.
use Rattle.std.specs.Prelude.{ℕ, zero, suc, ◌+◌, ◌-◌, ◌==◌, ◌||◌, Bool, true, false, List, [], ◌∷◌, length, take, drop, take_while, Option, Some, None, option_map, option_and_then, if◌then◌else◌}
use Rattle.csv.specs.Machine.{ends_with, is_end, step}
use Rattle.csv.specs.Reading.{default_config, strip_bom}
use Rattle.csv.specs.declared.parser.Action.{Action}
use Rattle.csv.specs.declared.parser.Action.TheVariants as act
use Rattle.csv.specs.declared.parser.State.{State}
use Rattle.csv.specs.declared.parser.State.TheVariants as st
use Rattle.csv.specs.declared.parser.Terminator.TheVariants as term
use Rattle.hq_explain_places.specs.declared.stand.Stand.{Stand}
use Rattle.hq_explain_places.specs.declared.stand.Stand.TheVariants as stand

-- the states that csv's reader takes by its defaults
abbrev pub state_of : Stand → State
state_of stand.StartRecord = st.StartRecord
state_of stand.StartField = st.StartField
state_of stand.InField = st.InField
state_of stand.InQuoted = st.InQuoted
state_of stand.AfterQuote = st.AfterQuote
state_of stand.AfterCr = st.AfterCr

-- where it stands behind a byte, and whether that ends a record, or a field that is not the last
abbrev pub state_after : State → ℕ → State
state_after s c = (step default_config s c).0

abbrev pub ends_record : State → ℕ → Bool
ends_record s c = is_end (step default_config s c).1

abbrev pub is_field_end : Action → Bool
is_field_end act.EndField = true
is_field_end act.EndRecord = false
is_field_end act.Skip = false
is_field_end act.Copy = false

abbrev pub ends_field : State → ℕ → Bool
ends_field s c = is_field_end (step default_config s c).1

-- a text from the end of the record on that begins it, and from the end of its first field on
abbrev pub behind_record : State → List ℕ → List ℕ
behind_record s [] = []
behind_record s (c ∷ cs) = if ends_record s c then c ∷ cs else behind_record (state_after s c) cs

abbrev pub behind_field : State → List ℕ → List ℕ
behind_field s [] = []
behind_field s (c ∷ cs) = if ends_field s c || ends_record s c then c ∷ cs else behind_field (state_after s c) cs

-- what of a text stands before the rest of it
abbrev pub part : (text rest : List ℕ) → List ℕ
part text rest = take (length text - length rest) text

-- a text from its first record on; one that begins with a record from the next one on, and from one of a number, counted from 0
abbrev pub break_length : List ℕ → ℕ
break_length text = length (take_while (ends_with term.CRLF) text)

abbrev pub from_first : List ℕ → List ℕ
from_first text = drop (break_length text) text

abbrev pub from_next : List ℕ → List ℕ
from_next text = from_first (behind_record st.StartField text)

abbrev pub from_record : ℕ → List ℕ → List ℕ
from_record zero text = text
from_record (suc n) text = from_record n (from_next text)

-- a file from its record of a number on, counted from 1, where there is one; a mark of the order of bytes is of no record
abbrev pub some_text : List ℕ → Option (List ℕ)
some_text [] = None
some_text (c ∷ cs) = Some (c ∷ cs)

abbrev pub record_rest : (text : List ℕ) (number : ℕ) → Option (List ℕ)
record_rest text zero = None
record_rest text (suc n) = some_text (from_record n (from_first (strip_bom text)))

-- that record: where it begins, and its text
abbrev pub record_of : (text : List ℕ) (number : ℕ) → Option (ℕ × List ℕ)
record_of text number = option_map (λ rest. (length text - length rest, part rest (behind_record st.StartField rest))) (record_rest text number)

-- how many commas of a record end fields
abbrev pub comma_count : State → List ℕ → ℕ
comma_count s [] = 0
comma_count s (c ∷ cs) = (if ends_field s c then 1 else 0) + comma_count (state_after s c) cs

-- what stands behind a byte, where a text begins with it
abbrev pub behind_byte : ℕ → List ℕ → Option (List ℕ)
behind_byte b [] = None
behind_byte b (c ∷ cs) = if b == c then Some cs else None

-- a text that begins with a record, from its field of a number on, counted from 0
abbrev pub from_field : ℕ → List ℕ → Option (List ℕ)
from_field zero rest = Some rest
from_field (suc n) rest = option_and_then (from_field n) (behind_byte 44 (behind_field st.StartField rest))

-- the field of a number, counted from 1, of a record: where it begins, and its text
abbrev pub field_rest : (text : List ℕ) (record_number number : ℕ) → Option (List ℕ)
field_rest text record_number zero = None
field_rest text record_number (suc n) = option_and_then (from_field n) (record_rest text record_number)

abbrev pub field_of : (text : List ℕ) (record_number number : ℕ) → Option (ℕ × List ℕ)
field_of text record_number number = option_map (λ rest. (length text - length rest, part rest (behind_field st.StartField rest))) (field_rest text record_number number)

-- whether a field begins where the reader stands, and whether a quote is open there
abbrev pub begins_field : State → Bool
begins_field st.StartRecord = true
begins_field st.StartField = true
begins_field st.AfterCr = true
begins_field st.InField = false
begins_field st.InQuoted = false
begins_field st.AfterQuote = false
begins_field st.InEscape = false
begins_field st.InComment = false

abbrev pub is_quoted : State → Bool
is_quoted st.InQuoted = true
is_quoted st.StartRecord = false
is_quoted st.StartField = false
is_quoted st.InField = false
is_quoted st.AfterQuote = false
is_quoted st.InEscape = false
is_quoted st.InComment = false
is_quoted st.AfterCr = false

-- what of a file stands from the last field on, where its quote is open at the end; `field` is what stands from the last one up to here on
abbrev pub open_field : State → (field rest : List ℕ) → Option (List ℕ)
open_field s field [] = if is_quoted s then Some field else None
open_field s field (c ∷ cs) = open_field (state_after s c) (if begins_field (state_after s c) then cs else field) cs

-- where that field begins
abbrev pub open_quote : (text : List ℕ) → Option ℕ
open_quote text = option_map (λ rest. length text - length rest) (open_field st.StartRecord (strip_bom text) (strip_bom text))
