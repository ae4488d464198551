use Rattle.std.proofs.Common.{◌≡◌, ◌<◌, ℕ, false, length, take}
use Rattle.std.specs.Prelude.{◌==◌, slice_index_or}
use Rattle.std.specs.List.{list_any}
use Rattle.hq_sql_check.proofs.marks.mark.Given as goal

-- the marks of the places so far are set
abbrev pub invariant-loop-place : goal.invariant-loop-place
invariant-loop-place l = record {
  count : length l.marks.items ≡ length l.fn.marks.items;
  set : (t : ℕ) → t < length l.fn.marks.items → slice_index_or l.fn.marks.items t false ≡ false → slice_index_or l.marks.items t false ≡ list_any (λ u. u == t) (take l.place-index l.places);
}
