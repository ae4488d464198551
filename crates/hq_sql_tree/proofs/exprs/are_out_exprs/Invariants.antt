use Rattle.std.proofs.Common.{◌≡◌, drop, map}
use Rattle.std.specs.List.{list_all}
use Rattle.hq_sql_tree.specs.View.{out_view}
use Rattle.hq_sql_tree.specs.Form.{is_expr}
use Rattle.hq_sql_tree.proofs.exprs.are_out_exprs.Given as goal

-- those that are left tell what all do
abbrev pub invariant-loop-out : goal.invariant-loop-out
invariant-loop-out l = list_all (λ o. is_expr o.value) (map out_view (drop l.out-index l.out-items)) ≡ list_all (λ o. is_expr o.value) (map out_view l.out-items)
