use Rattle.std.proofs.Common.{◌≡◌, map, take}
use Rattle.hq_schema.specs.Schema.{arg_view}
use Rattle.hq_schema_of_role.specs.Rows.{row_arg}
use Rattle.hq_schema_of_role.proofs.rows.row_args.Given as goal

abbrev pub invariant-loop-row : goal.invariant-loop-row
invariant-loop-row l = map arg_view l.args.items ≡ map row_arg (take l.row-index l.rows)
