use Rattle.std.proofs.Common.{◌≡◌, ◌++◌, drop}
use Rattle.std.specs.Prelude.{flat_map}
use Rattle.hq_schema_of_role.specs.Scalars.{table_scalars}
use Rattle.hq_schema_of_role.proofs.scalars.all_scalars.Given as goal

abbrev pub invariant-loop-table : goal.invariant-loop-table
invariant-loop-table l = l.names.items ++ flat_map table_scalars (drop l.table-index l.table-items) ≡ flat_map table_scalars l.table-items
