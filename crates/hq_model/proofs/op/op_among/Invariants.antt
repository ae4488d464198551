use Rattle.std.proofs.Common.{◌≡◌, drop, find, bytes_eq}
use Rattle.hq_model.specs.Operators.{column_operator_name}
use Rattle.hq_model.proofs.op.op_among.Given as goal

-- the comparison is among those that are left, if it is among them all
abbrev pub invariant-loop-op : goal.invariant-loop-op
invariant-loop-op l =
    find (λ op. bytes_eq (column_operator_name op) l.name) (drop l.op-index l.ops) ≡ find (λ op. bytes_eq (column_operator_name op) l.name) l.ops
