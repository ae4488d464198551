use Rattle.std.proofs.Common.{◌≡◌, drop, map}
use Rattle.std.specs.List.{list_all}
use Rattle.hq_sql_tree.specs.View.{expr_view}
use Rattle.hq_sql_tree.specs.WellFormed.{is_operand}
use Rattle.hq_sql_check.specs.Scopes.{scope_view}
use Rattle.hq_sql_check.proofs.tested.are_operands.Given as goal

-- those that are left tell what all do
abbrev pub invariant-loop-operand : goal.invariant-loop-operand
invariant-loop-operand l =
    let taken = is_operand (scope_view l.scope) l.test (expr_view l.value) in
    list_all taken (map expr_view (drop l.operand-index l.operand-items)) ≡ list_all taken (map expr_view l.operand-items)
