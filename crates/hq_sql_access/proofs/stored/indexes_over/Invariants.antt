use Rattle.std.proofs.Common.{ℕ, ◌<◌, length, get_or}
use Rattle.hq_load_index.specs.Indexes.{IsOver}
use Rattle.hq_load_index.specs.declared.index.Index.{Index}
use Rattle.hq_sql_access.proofs.stored.indexes_over.Given as goal

-- each so far is one over the rows
abbrev pub invariant-loop-columns : goal.invariant-loop-columns
invariant-loop-columns l = (i : ℕ) (d : Index) → i < length l.indexes.items → IsOver l.rows (get_or l.indexes.items i d)
