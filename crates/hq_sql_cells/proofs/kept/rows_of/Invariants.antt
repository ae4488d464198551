use Rattle.std.proofs.Common.{◌≡◌, ◌++◌, map}
use Rattle.std.specs.Vec.Iter.{into_iter_items}
use Rattle.hq_sql_cells.proofs.kept.rows_of.Given as goal

-- the rows so far, and those from here on
abbrev pub invariant-loop-row : goal.invariant-loop-row
invariant-loop-row g l = l.rows.items ++ map (λ k. k.row) (into_iter_items l.row-iterator) ≡ map (λ k. k.row) l.fn.kept.items
