use Rattle.std.proofs.Common.{◌≡◌, ◌++◌, map, filter, drop}
use Rattle.hq_schema.specs.Schema.{arg_view}
use Rattle.hq_schema_of_role.specs.Operators.{is_operator_of, operator_arg}
use Rattle.hq_schema_of_role.proofs.operators.operators_of.Given as goal

abbrev pub invariant-loop-operator : goal.invariant-loop-operator
invariant-loop-operator l =
    map arg_view l.inputs.items ++ map (operator_arg l.scalar) (filter (is_operator_of l.scalar) (drop l.operator-index l.operators))
    ≡ map (operator_arg l.scalar) (filter (is_operator_of l.scalar) l.operators)
