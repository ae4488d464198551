-- Where the keys of whole numbers begin among the entries (Cormen et al., Introduction to Algorithms, direct-address tables).
use Rattle.std.specs.Prelude.{◌≡◌, ◌<◌, ℕ, ℤ, suc, pos, ◌+ℤ◌, List, [], ◌∷◌, length, false, true, slice_index_or}
use Rattle.hq_base.specs.Cells.{CellTree, int}
use Rattle.hq_base.specs.declared.value.Val.{Val}
use Rattle.hq_load_index.specs.Keys.{has_null}
use Rattle.hq_load_index.specs.Places.{IsPlace}
use Rattle.hq_load_index.specs.declared.span.Span.{Span}

-- the key of the whole number so many behind the least one
abbrev pub number_key : (least : ℤ) → ℕ → List CellTree
number_key least i = int (least +ℤ pos i) ∷ []

-- each start is the place of its number's key
pub record AreStarts (columns : List ℕ) (rows : List (List Val)) (entries : List ℕ) (least : ℤ) (starts : List ℕ) : Type 0 where
  pub places : (i : ℕ) → i < length starts → IsPlace columns rows entries (number_key least i) false (slice_index_or starts i 0)

-- the entries of a number are those from its start up to that of the next one, and no comparison found them
pub record IsSpanOf (least : ℤ) (starts : List ℕ) (number : ℤ) (s : Span) : Type 0 where
  pub at : ℕ
  pub is : number ≡ least +ℤ pos at
  pub within : suc at < length starts
  pub from : s.from ≡ slice_index_or starts at 0
  pub to : s.to ≡ slice_index_or starts (suc at) 0
  pub free : s.compared ≡ 0

-- these are the entries that have a key without a NULL, and no comparison found them
pub record IsSpan (columns : List ℕ) (rows : List (List Val)) (entries : List ℕ) (key : List CellTree) (s : Span) : Type 0 where
  pub whole : has_null key ≡ false
  pub from : IsPlace columns rows entries key false s.from
  pub to : IsPlace columns rows entries key true s.to
  pub free : s.compared ≡ 0
