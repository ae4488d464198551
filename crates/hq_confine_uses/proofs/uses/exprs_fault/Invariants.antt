use Rattle.std.proofs.Common.{◌≡◌, List, drop, map}
use Rattle.hq_sql_tree.specs.View.{expr_view}
use Rattle.hq_sql_tree.specs.declared.expr.Expr.{Expr}
use Rattle.hq_confine_rules.specs.Faults.{worse, worst}
use Rattle.hq_confine_rules.specs.Uses.{exprs_faults}
use Rattle.hq_confine_uses.specs.Views.{faulted, shapes_view, rules_schema, rules_grants}
use Rattle.hq_confine_uses.proofs.uses.exprs_fault.Given as goal

-- the fault so far, and that of those that are left
abbrev pub invariant-loop-expr : goal.invariant-loop-expr
invariant-loop-expr l =
    let whole = λ (list : List Expr). worst (exprs_faults (rules_schema l.rules) (rules_grants l.rules) (shapes_view l.scope) (map expr_view list)) in
    worse (faulted l.found) (whole (drop l.expr-index l.expr-items)) ≡ whole l.expr-items
