use Rattle.std.proofs.Common.{◌≡◌, map, take}
use Rattle.hq_schema.specs.Schema.{arg_view}
use Rattle.hq_schema_of_role.specs.Root.{key_arg}
use Rattle.hq_schema_of_role.proofs.root.key_args.Given as goal

abbrev pub invariant-loop-column : goal.invariant-loop-column
invariant-loop-column l = map arg_view l.args.items ≡ map key_arg (take l.column-index l.column-items)
