use Rattle.std.proofs.Common.{◌≡◌, map, take, length}
use Rattle.hq_sql_tree.specs.View.{pred_view}
use Rattle.hq_sql_conjuncts.specs.Weight.{pred_weight}
use Rattle.hq_sql_conjuncts.proofs.same.+same.Given as goal

abbrev pub invariant-same_preds-loop-at : goal.invariant-same_preds-loop-at
invariant-same_preds-loop-at l = record {
  as_long : length l.a.items ≡ length l.b.items;
  views : map pred_view (take l.at l.a.items) ≡ map pred_view (take l.at l.b.items);
  weights : map pred_weight (take l.at l.a.items) ≡ map pred_weight (take l.at l.b.items);
}
