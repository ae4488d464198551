use Rattle.std.proofs.Common.{◌≡◌, ◌++◌, ◌+◌, length}
use Rattle.std.specs.Vec.Iter.{into_iter_items}
use Rattle.hq_copy.proofs.redacting.rows_list.Given as goal

-- the rows so far, and then those that are left
abbrev pub invariant-loop-rows : goal.invariant-loop-rows
invariant-loop-rows l = record {
  rows : l.all ++ into_iter_items l.rows-iterator ≡ l.fn.lists.items;
  at : l.at ≡ length l.all;
}
