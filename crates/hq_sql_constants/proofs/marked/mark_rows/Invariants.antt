use Rattle.std.proofs.Common.{◌≡◌, ◌<◌, ℕ, false, length, take}
use Rattle.std.specs.Prelude.{◌==◌, slice_index_or}
use Rattle.std.specs.List.{list_any}
use Rattle.hq_sql_constants.proofs.marked.mark_rows.Given as goal

-- the marks of the rows so far are set
abbrev pub invariant-loop-row : goal.invariant-loop-row
invariant-loop-row l = record {
  count : length l.marks.items ≡ length l.fn.marks.items;
  left : (t : ℕ) → t < length l.fn.marks.items → slice_index_or l.marks.items t false ≡ false → slice_index_or l.fn.marks.items t false ≡ false;
  set : (t : ℕ) → t < length l.fn.marks.items → slice_index_or l.fn.marks.items t false ≡ false → slice_index_or l.marks.items t false ≡ list_any (λ u. u == t) (take l.row-index l.found);
}
