use Rattle.std.proofs.Common.{◌≡◌, map, take}
use Rattle.hq_schema_of_role.proofs.inputs.columns_of.Given as goal

abbrev pub invariant-loop-column : goal.invariant-loop-column
invariant-loop-column l = l.cols ≡ map (λ c. c.col) (take l.column-index l.column-items)
