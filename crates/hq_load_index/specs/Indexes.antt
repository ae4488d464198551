-- Indexes: the numbers of rows in the order of their keys (PostgreSQL, CREATE INDEX).
use Rattle.std.specs.Prelude.{◌≡◌, ℕ, zero, suc, List, [], ◌∷◌, IfSome, filter, length, not, slice_index_or}
use Rattle.std.specs.declared.cmp.Ordering.{Ordering}
use Rattle.std.specs.Ordering.{on}
use Rattle.hq_base.specs.Cells.{CellTree}
use Rattle.hq_base.specs.Lists.{sort}
use Rattle.hq_base.specs.declared.value.Val.{Val}
use Rattle.hq_load_index.specs.Direct.{AreStarts}
use Rattle.hq_load_index.specs.Keys.{key_at, keys_cmp, has_null, has_key}
use Rattle.hq_load_index.specs.declared.index.Index.{Index}

-- so many numbers from this one on
abbrev pub counted : (from count : ℕ) → List ℕ
counted from zero = []
counted from (suc count) = from ∷ counted (suc from) count

-- rows by their keys
abbrev pub by_key : (columns : List ℕ) → List (List Val) → ℕ → ℕ → Ordering
by_key columns rows = on (key_at columns rows) keys_cmp

-- all rows in the order of their keys, those of one key in file order
abbrev pub sorted_rows : (columns : List ℕ) → List (List Val) → List ℕ
sorted_rows columns rows = sort (by_key columns rows) (counted 0 (length rows))

-- those whose key has no NULL
abbrev pub indexed_rows : (columns : List ℕ) → List (List Val) → List ℕ
indexed_rows columns rows = filter (λ n. not (has_null (key_at columns rows n))) (sorted_rows columns rows)

-- the rows that have a key, in file order
abbrev pub rows_with : (columns : List ℕ) → List CellTree → List (List Val) → List ℕ
rows_with columns key rows = filter (λ n. has_key columns key (slice_index_or rows n [])) (counted 0 (length rows))

-- the columns of an index, and its row numbers
abbrev pub columns_of : Index → List ℕ
columns_of i = i.columns.items

abbrev pub entries_of : Index → List ℕ
entries_of i = i.entries.items

-- an index is one over these rows
pub record IsOver (rows : List (List Val)) (i : Index) : Type 0 where
  pub entries : entries_of i ≡ indexed_rows (columns_of i) rows
  pub direct : IfSome i.direct (λ d. AreStarts (columns_of i) rows (entries_of i) d.least d.starts.items)
