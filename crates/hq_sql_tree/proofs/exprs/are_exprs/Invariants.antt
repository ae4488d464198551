use Rattle.std.proofs.Common.{◌≡◌, drop, map}
use Rattle.std.specs.List.{list_all}
use Rattle.hq_sql_tree.specs.View.{expr_view}
use Rattle.hq_sql_tree.specs.Form.{is_expr}
use Rattle.hq_sql_tree.proofs.exprs.are_exprs.Given as goal

-- those that are left tell what all do
abbrev pub invariant-loop-expr : goal.invariant-loop-expr
invariant-loop-expr l = list_all is_expr (map expr_view (drop l.expr-index l.expr-items)) ≡ list_all is_expr (map expr_view l.expr-items)
