-- Texts that list values: `{`, elements joined by `,`, and `}` (PostgreSQL, Arrays: array input and output syntax, of one
-- dimension and without NULL). All marks are ASCII, so bytes are as good as characters here.
use Rattle.std.specs.Prelude.{ℕ, List, [], ◌∷◌, ◌++◌, Bool, true, not, cond, ◌||◌, ◌==◌, Option, Some, None, option_map, option_and_then, bytes_eq, codes}
use Rattle.std.specs.Result.{result_ok}
use Rattle.std.specs.Str.{str_eq_ignore_ascii_case}
use Rattle.hq_base.specs.Refused.{text_of}
use Rattle.hq_base.specs.declared.value.Ty.{Ty}
use Rattle.hq_base.specs.declared.value.Ty.TheVariants.{Integer, Bigint, Text, Boolean, Uuid, Opaque}
use Rattle.hq_base.specs.declared.value.Val.{Val}
use Rattle.hq_model.specs.Tests.{Test, reads}
use Rattle.hq_model.specs.declared.session_list.ListState.{ListState}
use Rattle.hq_model.specs.declared.session_list.ListState.TheVariants.{Before, Plain, Quoted, Escaped, Behind}
use Rattle.hq_model.specs.declared.session_list.Step.{Step}
use Rattle.hq_model.specs.declared.session_list.Step.TheVariants.{Own, Gap, Pass, Comma, Close, Wrong}
use Rattle.hq_model.specs.declared.want.Want.{Want}
use Rattle.hq_model.specs.declared.want.Want.TheVariants as want

-- what the byte behind an element, or the spaces behind it, does: `,` and `}` end it
abbrev pub step_behind : (otherwise : Step) → ℕ → Step
step_behind otherwise c = cond (c == 44) Comma (cond (c == 125) Close otherwise)

-- a byte that stands in no element without quotes: `{`, `"` or `\`
abbrev pub is_mark : ℕ → Bool
is_mark c = (c == 123) || (c == 34) || (c == 92)

-- a byte of an element without quotes
abbrev pub step_plain : ℕ → Step
step_plain c = cond (is_mark c) Wrong (Own Plain)

-- What a byte does at a place: it is the element's own, a space that is its own where more of it follows, passed over, the
-- end of the element or of the list, or wrong. An element is `"`, bytes of which `\` takes the next one, and `"`; or it has
-- no mark, and neither begins nor ends with a space. Spaces around an element are passed over.
abbrev pub step : ListState → ℕ → Step
step Before c = cond (c == 32) (Pass Before) (cond (c == 34) (Pass Quoted) (cond ((c == 44) || (c == 125)) Wrong (step_plain c)))
step Plain c = cond (c == 32) Gap (step_behind (step_plain c) c)
step Quoted c = cond (c == 34) (Pass Behind) (cond (c == 92) (Pass Escaped) (Own Quoted))
step Escaped c = Own Quoted
step Behind c = cond (c == 32) (Pass Behind) (step_behind Wrong c)

-- NULL, in any case
abbrev pub is_null_word : List ℕ → Bool
is_null_word element = str_eq_ignore_ascii_case element (codes "NULL")

-- an element may end: without quotes it is not NULL
abbrev pub may_end : ListState → List ℕ → Bool
may_end Plain element = not (is_null_word element)
may_end Before element = true
may_end Quoted element = true
may_end Escaped element = true
may_end Behind element = true

-- the last element, where nothing follows the bracket
abbrev pub last_of : List ℕ → (rest : List ℕ) → Option (List (List ℕ))
last_of element [] = Some (element ∷ [])
last_of element (c ∷ cs) = None

-- the elements from a byte on, by what it does: the element at hand, the spaces behind it, and how the list goes on
abbrev pub elements_after : Step → ListState → (element gap : List ℕ) → ℕ → (rest : List ℕ) → (on : ListState → (element gap : List ℕ) → Option (List (List ℕ))) → Option (List (List ℕ))
elements_after (Own next) place element gap c cs on = on next (element ++ gap ++ c ∷ []) []
elements_after Gap place element gap c cs on = on place element (gap ++ c ∷ [])
elements_after (Pass next) place element gap c cs on = on next element gap
elements_after Comma place element gap c cs on = cond (may_end place element) (option_map (λ es. element ∷ es) (on Before [] [])) None
elements_after Close place element gap c cs on = cond (may_end place element) (last_of element cs) None
elements_after Wrong place element gap c cs on = None

-- the elements from a place on: what is there of the element at hand, and the spaces behind it
abbrev pub elements_from : ListState → (element gap rest : List ℕ) → Option (List (List ℕ))
elements_from place element gap [] = None
elements_from place element gap (c ∷ cs) = elements_after (step place c) place element gap c cs (λ next e g. elements_from next e g cs)

-- the elements behind the first bracket
abbrev pub elements_in : List ℕ → Option (List (List ℕ))
elements_in [] = None
elements_in (c ∷ cs) = cond (c == 123) (elements_from Before [] [] cs) None

-- the elements of a session list; `{}` alone has none
abbrev pub elements_of : List ℕ → Option (List (List ℕ))
elements_of text = cond (bytes_eq text (codes "{}")) (Some []) (elements_in text)

-- an element as an operand of a test of a column of this type
abbrev pub element_value : Test → Ty → List ℕ → Option Val
element_value t ty element = option_and_then (λ text. result_ok (reads t ty text)) (result_ok (text_of element))

-- all elements so, where each is one
abbrev pub element_values : Test → Ty → List (List ℕ) → Option (List Val)
element_values t ty [] = Some []
element_values t ty (e ∷ es) = option_and_then (λ v. option_map (λ vs. v ∷ vs) (element_values t ty es)) (element_value t ty e)

-- the values that a session list lists, for a test of a column of this type
abbrev pub listed_values : Test → Ty → List ℕ → Option (List Val)
listed_values t ty text = option_and_then (element_values t ty) (elements_of text)

-- what a text that is none of these lists is not
abbrev pub list_want : Ty → Want
list_want Integer = want.IntegerList
list_want Bigint = want.BigintList
list_want Text = want.TextList
list_want Boolean = want.BooleanList
list_want Uuid = want.UuidList
list_want Opaque = want.TextList
