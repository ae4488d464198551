-- Rows with their indexes.
use Rattle.std.specs.Prelude.{ℕ, ◌<◌, ◌^◌, List, length, slice_index_or}
use Rattle.hq_base.specs.declared.value.Val.{Val}
use Rattle.hq_load_index.specs.Indexes.{IsOver}
use Rattle.hq_load_index.specs.declared.index.Index.{Index}

-- fewer than 2 ^ 31 rows, and each index is one over them
pub record IsIndexed (rows : List (List Val)) (indexes : List Index) : Type 0 where
  pub few : length rows < 2 ^ 31
  pub over : (i : ℕ) (d : Index) → i < length indexes → IsOver rows (slice_index_or indexes i d)
