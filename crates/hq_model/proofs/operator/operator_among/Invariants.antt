use Rattle.std.proofs.Common.{◌≡◌, drop, find, bytes_eq}
use Rattle.hq_model.specs.Operators.{operator_name}
use Rattle.hq_model.proofs.operator.operator_among.Given as goal

-- the operator is among those that are left, if it is among them all
abbrev pub invariant-loop-operator : goal.invariant-loop-operator
invariant-loop-operator l =
    find (λ o. bytes_eq (operator_name o) l.name) (drop l.operator-index l.operators) ≡ find (λ o. bytes_eq (operator_name o) l.name) l.operators
