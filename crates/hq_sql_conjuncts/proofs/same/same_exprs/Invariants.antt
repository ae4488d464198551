use Rattle.std.proofs.Common.{◌≡◌, map, take, length}
use Rattle.hq_sql_tree.specs.View.{expr_view}
use Rattle.hq_sql_conjuncts.specs.Weight.{expr_weight}
use Rattle.hq_sql_conjuncts.proofs.same.same_exprs.Given as goal

abbrev pub invariant-loop-at : goal.invariant-loop-at
invariant-loop-at l = record {
  as_long : length l.a.items ≡ length l.b.items;
  views : map expr_view (take l.at l.a.items) ≡ map expr_view (take l.at l.b.items);
  weights : map expr_weight (take l.at l.a.items) ≡ map expr_weight (take l.at l.b.items);
}
