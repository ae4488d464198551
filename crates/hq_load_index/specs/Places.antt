-- Where a key stands among the entries of an index.
use Rattle.std.specs.Prelude.{◌≡◌, ℕ, ◌+◌, ◌^◌, ◌<◌, ◌≤◌, List, length, Bool, true, false, slice_index_or}
use Rattle.std.specs.declared.cmp.Ordering.{Ordering}
use Rattle.std.specs.declared.cmp.Ordering.TheVariants.{Less, Equal, Greater}
use Rattle.hq_base.specs.Cells.{CellTree}
use Rattle.hq_base.specs.declared.value.Val.{Val}
use Rattle.hq_load_index.specs.Keys.{key_at, keys_cmp}

-- whether this order is before a key, or at it where `after` asks for that too
abbrev pub before_or : Ordering → (after : Bool) → Bool
before_or Less after = true
before_or Equal after = after
before_or Greater after = false

-- whether an entry stands before a key, or has it where `after` asks for that too
abbrev pub stands_before : (columns : List ℕ) → List (List Val) → List CellTree → (after : Bool) → (entry : ℕ) → Bool
stands_before columns rows key after entry = before_or (keys_cmp (key_at columns rows entry) key) after

-- the first entry that does not stand before a key
pub record IsPlace (columns : List ℕ) (rows : List (List Val)) (entries : List ℕ) (key : List CellTree) (after : Bool) (place : ℕ) : Type 0 where
  pub within : place ≤ length entries
  pub before : (i : ℕ) → i < place → stands_before columns rows key after (slice_index_or entries i 0) ≡ true
  pub behind : (i : ℕ) → place ≤ i → i < length entries → stands_before columns rows key after (slice_index_or entries i 0) ≡ false

-- what is left to halve ends before this many comparisons are made
abbrev pub EndsWithin : (rest compared most : ℕ) → Type 0
EndsWithin rest compared most = (k : ℕ) × (rest < 2 ^ k) × (compared + k ≤ most)
