use Rattle.std.proofs.Common.{◌≡◌, map, drop}
use Rattle.hq_sql_tree.specs.Tree.{preds_of}
use Rattle.hq_sql_tree.specs.View.{pred_view}
use Rattle.hq_sql_conjuncts.specs.Closed.{are_closed}
use Rattle.hq_sql_conjuncts.specs.Named.{names_view}
use Rattle.hq_sql_conjuncts.proofs.closed.+closed.Given as goal

abbrev pub invariant-are_closed-loop-pred : goal.invariant-are_closed-loop-pred
invariant-are_closed-loop-pred l = are_closed (names_view l.names) (preds_of (map pred_view (drop l.pred-index l.pred-items))) ≡ are_closed (names_view l.names) (preds_of (map pred_view l.pred-items))
