use Rattle.std.proofs.Common.{◌≡◌, ◌++◌, map, drop}
use Rattle.hq_sql_tree.specs.Tree.{joins_of, preds_of}
use Rattle.hq_sql_tree.specs.View.{join_view, pred_view}
use Rattle.hq_sql_check.specs.Scans.{places_of_joins, places_of_preds}
use Rattle.hq_sql_check.proofs.places.+places.Given as goal

-- what is found so far, and then what stands in the joins that are left, is all
abbrev pub invariant-add_joins-loop-join : goal.invariant-add_joins-loop-join
invariant-add_joins-loop-join l =
    l.found.items ++ places_of_joins (joins_of (map join_view (drop l.join-index l.join-items))) l.tables ≡ l.fn.found.items ++ places_of_joins (joins_of (map join_view l.join-items)) l.tables

-- and likewise of conditions
abbrev pub invariant-add_preds-loop-pred : goal.invariant-add_preds-loop-pred
invariant-add_preds-loop-pred l =
    l.found.items ++ places_of_preds (preds_of (map pred_view (drop l.pred-index l.pred-items))) l.tables ≡ l.fn.found.items ++ places_of_preds (preds_of (map pred_view l.pred-items)) l.tables
