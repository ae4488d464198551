use Rattle.std.proofs.Common.{◌≡◌, map, drop}
use Rattle.hq_schema.specs.Schema.{arg_view}
use Rattle.hq_request_arguments.specs.Keys.{key_argument}
use Rattle.hq_request_arguments.proofs.keys.key_argument.Given as goal

-- the argument is among those that are left, if it is among them all
abbrev pub invariant-loop-arg : goal.invariant-loop-arg
invariant-loop-arg l = key_argument (map arg_view (drop l.arg-index l.args)) l.column ≡ key_argument (map arg_view l.args) l.column
