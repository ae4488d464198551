-- What a body of JSON reads as, or why it is refused (RFC 8259, as serde_json reads it).
use Rattle.std.specs.Prelude.{ℕ, List, [], ◌∷◌, Option, Some, None, ok_or, Result, Ok, Err, if◌then◌else◌}
use Rattle.std.specs.Str.{is_utf8}
use Rattle.serde_json.specs.Data.{Data, Items, no_items, item, Members, no_members, member}
use Rattle.serde_json.specs.Data as data_of
use Rattle.serde_json.specs.Read.{read}
use Rattle.serde_json.specs.Find.{as_i64}
use Rattle.hq_base.specs.Due.{and_then, mapped}
use Rattle.hq_base.specs.Text.{has_zero}
use Rattle.hq_base.specs.Json.{JsonTree, elements_of, members_of}
use Rattle.hq_base.specs.Json as tree
use Rattle.hq_base.specs.declared.body.JsonRefusal.{JsonRefusal}
use Rattle.hq_base.specs.declared.body.JsonRefusal.TheVariants.{NotJson, Fraction, ZeroByte, Memory}
use Rattle.hq_base.specs.declared.txt.TxtRefusal.{TxtRefusal}
use Rattle.hq_base.specs.declared.txt.TxtRefusal.TheVariants as text

-- why a body whose text is refused is no JSON
abbrev pub refusal_of : TxtRefusal → JsonRefusal
refusal_of text.NotUtf8 = NotJson
refusal_of text.ZeroByte = ZeroByte
refusal_of text.Memory = Memory

-- a name or text, which has no zero byte
abbrev pub clean : List ℕ → Result (List ℕ) JsonRefusal
clean s = if has_zero s then Err ZeroByte else Ok s

-- The value of what serde_json holds, or the refusal of the first bad node: a number that is not held as a whole
-- number of 64 bits with sign, or a name or text with a zero byte. A member's name comes before its value.
abbrev mutual
  pub value_of : Data → Result JsonTree JsonRefusal
  value_of data_of.null = Ok tree.null
  value_of (data_of.boolean b) = Ok (tree.bool b)
  value_of (data_of.number n) = mapped tree.int (ok_or (as_i64 n) Fraction)
  value_of (data_of.string s) = mapped tree.str (clean s)
  value_of (data_of.array ds) = mapped (λ js. tree.arr (elements_of js)) (elements_in ds)
  value_of (data_of.object ms) = mapped (λ js. tree.obj (members_of js)) (members_in ms)

  pub elements_in : Items → Result (List JsonTree) JsonRefusal
  elements_in no_items = Ok []
  elements_in (item d ds) = and_then (λ j. mapped (λ js. j ∷ js) (elements_in ds)) (value_of d)

  pub members_in : Members → Result (List (List ℕ × JsonTree)) JsonRefusal
  members_in no_members = Ok []
  members_in (member k d ms) = and_then (λ name. and_then (λ j. mapped (λ js. (name, j) ∷ js) (members_in ms)) (value_of d)) (clean k)

-- the value of what serde_json reads, which is nested at most 127 deep: of a name that stands twice it keeps the last
-- value, and it holds the members in ascending order of their names' bytes
abbrev pub value_if : Option Data → Result JsonTree JsonRefusal
value_if None = Err NotJson
value_if (Some d) = value_of d

-- what a body reads as, or the first cause to refuse it
abbrev pub body_of : List ℕ → Result JsonTree JsonRefusal
body_of bytes = if is_utf8 bytes then value_if (read bytes) else Err NotJson
