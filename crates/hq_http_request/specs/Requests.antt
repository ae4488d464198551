-- What a whole head announces, by its method, target, version and fields, as names and values.
use Rattle.std.specs.Prelude.{ℕ, ◌+◌, ◌*◌, ◌-◌, nat_lt, Bool, true, false, not, ◌&&◌, ◌||◌, ◌==◌, List, [], ◌∷◌, length, codes, if◌then◌else◌, cond, is_none, is_some}
use Rattle.std.specs.declared.option.Option.{Option}
use Rattle.std.specs.declared.option.Option.TheVariants.{None, Some}
use Rattle.std.specs.List.{list_all, list_any, slice_split}
use Rattle.std.specs.Char.{is_ascii_digit}
use Rattle.std.specs.Str.{str_eq_ignore_ascii_case, bytes_eq, is_utf8}
use Rattle.httparse.specs.Grammar.{trim_ows}
use Rattle.hq_http_request.specs.declared.fault.Fault.{Fault}
use Rattle.hq_http_request.specs.declared.fault.Fault.TheVariants as fault

-- the number that digits write, after a number
abbrev pub number : ℕ → List ℕ → ℕ
number sum [] = sum
number sum (b ∷ bs) = number (sum * 10 + (b - 48)) bs

-- digits, at least one
abbrev pub is_number : List ℕ → Bool
is_number value = not (length value == 0) && list_all is_ascii_digit value

-- the value of the first field of that name
abbrev pub value_of : List ℕ → List (List ℕ × List ℕ) → Option (List ℕ)
value_of name [] = None
value_of name (f ∷ fs) = cond (str_eq_ignore_ascii_case f.0 name) (Some f.1) (value_of name fs)

-- each value is UTF-8
abbrev pub are_text : List (List ℕ × List ℕ) → Bool
are_text [] = true
are_text (f ∷ fs) = is_utf8 f.1 && are_text fs

-- each field of that name has that value
abbrev pub agree : List ℕ → List ℕ → List (List ℕ × List ℕ) → Bool
agree name value [] = true
agree name value (f ∷ fs) = not (str_eq_ignore_ascii_case f.0 name && not (bytes_eq f.1 value)) && agree name value fs

-- the token is `close`, in any case
abbrev pub is_close : List ℕ → Bool
is_close token = str_eq_ignore_ascii_case (trim_ows token) (codes "close")

-- a list of tokens, with commas between them, has `close` (RFC 9110, sections 5.6.1 and 7.6.1)
abbrev pub closes_in : List ℕ → Bool
closes_in value = list_any is_close (slice_split (λ b. b == 44) value)

-- a field `Connection` has the token `close`
abbrev pub closes : List (List ℕ × List ℕ) → Bool
closes [] = false
closes (f ∷ fs) = (str_eq_ignore_ascii_case f.0 (codes "connection") && closes_in f.1) || closes fs

-- what stands before the first `?`
abbrev pub before_question : List ℕ → List ℕ
before_question [] = []
before_question (b ∷ bs) = cond (b == 63) [] (b ∷ before_question bs)

-- the refusal by the length of the body
abbrev pub length_refusal : List ℕ → List (List ℕ × List ℕ) → Option (List ℕ) → Option Fault
length_refusal method fields None =
    if is_some (value_of (codes "transfer-encoding") fields) || bytes_eq method (codes "POST") then Some fault.LengthRequired else None
length_refusal method fields (Some value) =
    if not (is_number value && agree (codes "content-length") value fields) then Some fault.BadRequest else (
    if is_some (value_of (codes "transfer-encoding") fields) then Some fault.LengthRequired else (
    if nat_lt 1048576 (number 0 value) then Some fault.BodyTooLarge else None))

-- the refusal of a whole head of at most 64 fields
abbrev pub refusal_of : List ℕ → ℕ → List (List ℕ × List ℕ) → Option Fault
refusal_of method minor fields =
    if not (are_text fields) then Some fault.BadRequest else (
    if minor == 1 && is_none (value_of (codes "host") fields) then Some fault.BadRequest else
    length_refusal method fields (value_of (codes "content-length") fields))

-- the length of the body
abbrev pub body_of : Option (List ℕ) → ℕ
body_of None = 0
body_of (Some value) = number 0 value
