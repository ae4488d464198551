use Rattle.std.proofs.Common.{ℕ, ◌<◌, length, get_or}
use Rattle.hq_load_index.specs.Grids.{rows_in}
use Rattle.hq_load_index.specs.Indexes.{IsOver}
use Rattle.hq_load_index.specs.declared.index.Index.{Index}
use Rattle.hq_load_tables.proofs.rows.indexes_over.Given as goal

abbrev pub invariant-loop-key : goal.invariant-loop-key
invariant-loop-key l = (i : ℕ) (d : Index) → i < length l.indexes.items → IsOver (rows_in l.grid) (get_or l.indexes.items i d)
