use Rattle.std.proofs.Common.{◌≡◌, ◌<◌, ℕ, [], length}
use Rattle.std.specs.Prelude.{slice_index_or}
use Rattle.hq_copy_filter.specs.Lent.{database_of}
use Rattle.hq_copy_filter.proofs.loaded.all_rows.Given as goal

-- the rows of the tables so far
abbrev pub invariant-loop-at : goal.invariant-loop-at
invariant-loop-at g l = record {
  long : length l.all.items ≡ l.at;
  rows : (t : ℕ) → t < l.at → slice_index_or (database_of l.all.items) t [] ≡ g.T.Tables.rows l.tables t;
}
