use Rattle.std.proofs.Common.{◌≡◌, ◌++◌, map}
use Rattle.std.specs.Vec.Iter.{into_iter_items}
use Rattle.hq_sql_cells.proofs.sorting.without_fronts.Given as goal

-- the rows so far, and those from here on
abbrev pub invariant-loop-kept : goal.invariant-loop-kept
invariant-loop-kept g l = l.rows.items ++ map (λ f. f.kept) (into_iter_items l.kept-iterator) ≡ map (λ f. f.kept) l.fn.all.items
