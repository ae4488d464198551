use Rattle.std.proofs.Common.{◌≡◌, ◌++◌, drop, map}
use Rattle.hq_sql_tree.specs.View.{expr_view}
use Rattle.hq_translation.specs.Conditions.{operand_literal}
use Rattle.hq_compile_tables.proofs.condition.operand_literals.Given as goal

abbrev pub invariant-loop-operand : goal.invariant-loop-operand
invariant-loop-operand l =
    map expr_view l.literals.items ++ map (operand_literal l.ty) (drop l.operand-index l.operands) ≡ map (operand_literal l.ty) l.operands
