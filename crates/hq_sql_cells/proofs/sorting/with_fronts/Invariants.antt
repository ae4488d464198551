use Rattle.std.proofs.Common.{◌≡◌, ◌++◌, map}
use Rattle.std.specs.Vec.Iter.{into_iter_items}
use Rattle.hq_sql_cells.proofs.sorting.with_fronts.Given as goal

-- the rows so far, and those from here on
abbrev pub invariant-loop-kept : goal.invariant-loop-kept
invariant-loop-kept g l = map (λ f. f.kept) l.all.items ++ into_iter_items l.kept-iterator ≡ l.fn.rows.items
