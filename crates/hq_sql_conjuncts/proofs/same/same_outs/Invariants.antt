use Rattle.std.proofs.Common.{◌≡◌, map, take, length}
use Rattle.hq_sql_tree.specs.View.{out_view}
use Rattle.hq_sql_conjuncts.specs.Weight.{out_weight}
use Rattle.hq_sql_conjuncts.proofs.same.same_outs.Given as goal

abbrev pub invariant-loop-at : goal.invariant-loop-at
invariant-loop-at l = record {
  as_long : length l.a.items ≡ length l.b.items;
  views : map out_view (take l.at l.a.items) ≡ map out_view (take l.at l.b.items);
  weights : map out_weight (take l.at l.a.items) ≡ map out_weight (take l.at l.b.items);
}
