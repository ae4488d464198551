use Rattle.std.proofs.Common.{◌≡◌, ◌++◌, drop, map}
use Rattle.hq_sql_tree.specs.Tree.{preds_of}
use Rattle.hq_sql_tree.specs.View.{pred_view}
use Rattle.hq_confine_rules.specs.Conjuncts.{all_opened}
use Rattle.hq_confine_members.specs.Views.{preds_view}
use Rattle.hq_confine_members.proofs.conditions.+open.Given as goal

-- the conjuncts so far, and those of the conditions that are left
abbrev pub invariant-open_all-loop-pred : goal.invariant-open_all-loop-pred
invariant-open_all-loop-pred l = preds_view l.found.items ++ all_opened (preds_of (map pred_view (drop l.pred-index l.pred-items))) ≡ preds_view l.initial.found.items ++ all_opened
    (preds_of (map pred_view l.pred-items))
