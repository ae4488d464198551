use Rattle.std.proofs.Common.{◌≡◌, ◌++◌, flat_map}
use Rattle.std.specs.Vec.Iter.{into_iter_items}
use Rattle.hq_load_tables.proofs.rows.flattened.Given as goal

-- what was put and what is left are all
abbrev pub invariant-loop-row : goal.invariant-loop-row
invariant-loop-row l = l.values.items ++ flat_map (λ row. row) (into_iter_items l.row-iterator) ≡ flat_map (λ row. row) l.fn.rows
