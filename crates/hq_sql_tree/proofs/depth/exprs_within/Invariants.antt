use Rattle.std.proofs.Common.{◌≡◌, drop, map, nat_le}
use Rattle.hq_sql_tree.specs.View.{expr_view}
use Rattle.hq_sql_tree.specs.Form.{greatest, expr_depth}
use Rattle.hq_sql_tree.proofs.depth.exprs_within.Given as goal

-- those that are left tell what all do
abbrev pub invariant-loop-expr : goal.invariant-loop-expr
invariant-loop-expr l = nat_le (greatest (map expr_depth (map expr_view (drop l.expr-index l.expr-items)))) l.room ≡ nat_le (greatest (map expr_depth (map expr_view l.expr-items))) l.room
