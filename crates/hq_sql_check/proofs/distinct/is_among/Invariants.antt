use Rattle.std.proofs.Common.{◌≡◌, drop, map}
use Rattle.hq_sql_tree.specs.View.{expr_view}
use Rattle.hq_sql_tree.specs.WellFormed.{is_among}
use Rattle.hq_sql_check.proofs.distinct.is_among.Given as goal

-- those that are left tell what all do
abbrev pub invariant-loop-expr : goal.invariant-loop-expr
invariant-loop-expr l = is_among (map expr_view (drop l.expr-index l.exprs)) (expr_view l.value) ≡ is_among (map expr_view l.exprs) (expr_view l.value)
