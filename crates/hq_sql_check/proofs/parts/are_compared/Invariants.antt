use Rattle.std.proofs.Common.{◌≡◌, drop, map}
use Rattle.std.specs.List.{list_all}
use Rattle.hq_sql_tree.specs.View.{expr_view}
use Rattle.hq_sql_tree.specs.WellFormed.{is_compared}
use Rattle.hq_sql_check.specs.Scopes.{scope_view}
use Rattle.hq_sql_check.proofs.parts.are_compared.Given as goal

-- those that are left tell what all do
abbrev pub invariant-loop-expr : goal.invariant-loop-expr
invariant-loop-expr l = list_all (is_compared (scope_view l.scope)) (map expr_view (drop l.expr-index l.expr-items)) ≡ list_all (is_compared (scope_view l.scope)) (map expr_view l.expr-items)
