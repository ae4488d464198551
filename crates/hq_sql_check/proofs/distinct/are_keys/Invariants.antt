use Rattle.std.proofs.Common.{◌≡◌, drop, map}
use Rattle.std.specs.List.{list_all}
use Rattle.hq_sql_tree.specs.View.{expr_view, order_view}
use Rattle.hq_sql_tree.specs.WellFormed.{is_among}
use Rattle.hq_sql_check.specs.Fronts.{key_values}
use Rattle.hq_sql_check.proofs.distinct.are_keys.Given as goal

-- those that are left tell what all do
abbrev pub invariant-loop-expr : goal.invariant-loop-expr
invariant-loop-expr l =
    list_all (is_among (key_values (map order_view l.keys))) (map expr_view (drop l.expr-index l.exprs))
    ≡ list_all (is_among (key_values (map order_view l.keys))) (map expr_view l.exprs)
