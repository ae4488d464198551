-- A table file that ends inside a quoted field, as csv reads it with its defaults: the end of the file then ends that field and its record.
use Rattle.std.specs.Prelude.{ℕ, Bool, true, false, List, [], ◌∷◌, nat_lt, Option, Some, None, Result, Ok, Err, cond}
use Rattle.csv.specs.Machine.{step}
use Rattle.csv.specs.Reading.{default_config, strip_bom}
use Rattle.csv.specs.declared.parser.State.{State}
use Rattle.csv.specs.declared.parser.State.TheVariants as st
use Rattle.hq_model.specs.Database.{Row}
use Rattle.hq_load_tables.specs.declared.load.refusal.LoadRefusal.{LoadRefusal}
use Rattle.hq_load_tables.specs.declared.load.refusal.LoadRefusal.TheVariants.{Header, Width, NotUtf8, ZeroByte, NotInteger, NotBoolean, NotUuid, NullInNotNull, RepeatedKey, Unclosed, Memory}
use Rattle.hq_load_tables.specs.declared.load.quotes.Stand.{Stand}
use Rattle.hq_load_tables.specs.declared.load.quotes.Stand.TheVariants as stand

-- where csv's reader stands behind a byte, and behind all these bytes
abbrev pub state_after : State → ℕ → State
state_after s c = (step default_config s c).0

abbrev pub state_behind : State → List ℕ → State
state_behind s [] = s
state_behind s (c ∷ cs) = state_behind (state_after s c) cs

-- the states that it takes by its defaults
abbrev pub state_of : Stand → State
state_of stand.StartRecord = st.StartRecord
state_of stand.StartField = st.StartField
state_of stand.InField = st.InField
state_of stand.InQuoted = st.InQuoted
state_of stand.AfterQuote = st.AfterQuote
state_of stand.AfterCr = st.AfterCr

abbrev pub is_quoted : State → Bool
is_quoted st.InQuoted = true
is_quoted st.StartRecord = false
is_quoted st.StartField = false
is_quoted st.InField = false
is_quoted st.AfterQuote = false
is_quoted st.InEscape = false
is_quoted st.InComment = false
is_quoted st.AfterCr = false

-- the file ends inside a quoted field
abbrev pub ends_inside : List ℕ → Bool
ends_inside bytes = is_quoted (state_behind st.StartRecord (strip_bom bytes))

-- the number of the record that a refusal is of; want of memory is of none
abbrev pub refused_record : LoadRefusal → Option ℕ
refused_record Header = Some 1
refused_record (Width line) = Some line
refused_record (NotUtf8 line col) = Some line
refused_record (ZeroByte line col) = Some line
refused_record (NotInteger line col) = Some line
refused_record (NotBoolean line col) = Some line
refused_record (NotUuid line col) = Some line
refused_record (NullInNotNull line col) = Some line
refused_record (Unclosed line) = Some line
refused_record (RepeatedKey line earlier) = Some line
refused_record Memory = None

abbrev pub stands_before : Option ℕ → (last : ℕ) → Bool
stands_before None last = true
stands_before (Some line) last = nat_lt line last

-- the last record, inside which the file ends, is refused as such, whatever else is due of it
abbrev pub unclosed_unless : (last : ℕ) → LoadRefusal → LoadRefusal
unclosed_unless last e = cond (stands_before (refused_record e) last) e (Unclosed last)

abbrev pub unclosed_due : (last : ℕ) → Result (List Row) LoadRefusal → Result (List Row) LoadRefusal
unclosed_due last (Ok rows) = Err (Unclosed last)
unclosed_due last (Err e) = Err (unclosed_unless last e)

-- what is due of a file that may end inside a field of its last record
abbrev pub closed_due : (inside : Bool) → (last : ℕ) → Result (List Row) LoadRefusal → Result (List Row) LoadRefusal
closed_due inside last due = cond inside (unclosed_due last due) due
