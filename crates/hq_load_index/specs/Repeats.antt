-- Keys that several rows have (PostgreSQL, unique constraints). NULL is as good a value as any other here.
use Rattle.std.specs.Prelude.{◌≡◌, ℕ, ◌<◌, List, length, Bool, true, false, Option, Some, None, nat_le, if◌then◌else◌}
use Rattle.std.specs.Ordering.{is_eq}
use Rattle.hq_base.specs.declared.value.Val.{Val}
use Rattle.hq_load_index.specs.Indexes.{by_key}
use Rattle.hq_load_index.specs.declared.repeats.Repeat.{Repeat}

-- two rows have one key
abbrev pub same_key : (columns : List ℕ) → List (List Val) → ℕ → ℕ → Bool
same_key columns rows i j = is_eq (by_key columns rows i j)

-- no two of the first so many rows have one key
abbrev pub KeysDiffer : (columns : List ℕ) → List (List Val) → (count : ℕ) → Type 0
KeysDiffer columns rows count = (i j : ℕ) → i < j → j < count → same_key columns rows i j ≡ false

-- the first row that has the key of an earlier one, and that one
pub record IsFirstRepeat (columns : List ℕ) (rows : List (List Val)) (r : Repeat) : Type 0 where
  pub before : r.earlier < r.row
  pub within : r.row < length rows
  pub same : same_key columns rows r.earlier r.row ≡ true
  pub first : KeysDiffer columns rows r.row

-- what is told of the keys: all differ, or which is repeated first
abbrev pub TellsRepeat : (columns : List ℕ) → List (List Val) → Option Repeat → Type 0
TellsRepeat columns rows None = KeysDiffer columns rows (length rows)
TellsRepeat columns rows (Some r) = IsFirstRepeat columns rows r

-- a repeat, where it stands before the one that was found so far
abbrev pub nearer : Option Repeat → Repeat → Option Repeat
nearer None next = Some next
nearer (Some found) next = if nat_le found.row next.row then Some found else Some next

-- two rows that follow one another in the order of keys, where they have one key, beside what was found so far
abbrev pub with_pair : (same : Bool) → Option Repeat → Repeat → Option Repeat
with_pair same found next = if same then nearer found next else found
