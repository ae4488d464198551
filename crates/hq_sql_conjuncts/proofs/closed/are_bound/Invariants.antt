use Rattle.std.proofs.Common.{◌≡◌, map, drop}
use Rattle.hq_sql_tree.specs.View.{expr_view}
use Rattle.hq_sql_conjuncts.specs.Closed.{are_bound}
use Rattle.hq_sql_conjuncts.specs.Named.{names_view}
use Rattle.hq_sql_conjuncts.proofs.closed.are_bound.Given as goal

abbrev pub invariant-loop-expr : goal.invariant-loop-expr
invariant-loop-expr l = are_bound (names_view l.names) (map expr_view (drop l.expr-index l.expr-items)) ≡ are_bound (names_view l.names) (map expr_view l.expr-items)
