use Rattle.std.proofs.Common.{◌≡◌, drop, map}
use Rattle.std.specs.List.{list_all}
use Rattle.hq_sql_tree.specs.View.{expr_view}
use Rattle.hq_sql_tree.specs.Form.{expr_fits}
use Rattle.hq_sql_tree.proofs.representable.exprs_fit.Given as goal

-- those that are left fit exactly where all do
abbrev pub invariant-loop-expr : goal.invariant-loop-expr
invariant-loop-expr l = list_all expr_fits (map expr_view (drop l.expr-index l.expr-items)) ≡ list_all expr_fits (map expr_view l.expr-items)
