use Rattle.std.proofs.Common.{◌≡◌, ◌++◌, [], drop, map}
use Rattle.hq_sql_tree.specs.Tree.{joins_of, preds_of}
use Rattle.hq_sql_tree.specs.View.{join_view, pred_view}
use Rattle.hq_sql_tree.specs.WellFormed.{aliases_in_joins, aliases_in_preds}
use Rattle.hq_sql_check.specs.Scopes.{texts}
use Rattle.hq_sql_check.proofs.aliases.+push_aliases.Given as goal

-- the aliases so far, and those of the joins that are left
abbrev pub invariant-push_of_joins-loop-join : goal.invariant-push_of_joins-loop-join
invariant-push_of_joins-loop-join l =
    texts l.aliases.items ++ aliases_in_joins (joins_of (map join_view (drop l.join-index l.join-items))) []
    ≡ texts l.initial.aliases.items ++ aliases_in_joins (joins_of (map join_view l.join-items)) []

-- the aliases so far, and those of the conditions that are left
abbrev pub invariant-push_of_preds-loop-pred : goal.invariant-push_of_preds-loop-pred
invariant-push_of_preds-loop-pred l =
    texts l.aliases.items ++ aliases_in_preds (preds_of (map pred_view (drop l.pred-index l.pred-items))) []
    ≡ texts l.initial.aliases.items ++ aliases_in_preds (preds_of (map pred_view l.pred-items)) []
