use Rattle.std.proofs.Common.{◌≡◌, ◌++◌, drop}
use Rattle.std.specs.List.{filter_map}
use Rattle.hq_schema_of_role.proofs.scalars.push_scalars.Given as goal

abbrev pub invariant-loop-column : goal.invariant-loop-column
invariant-loop-column l =
    l.names.items ++ filter_map (λ c. c.scalar) (drop l.column-index l.column-items) ≡ l.initial.names.items ++ filter_map (λ c. c.scalar) l.column-items
