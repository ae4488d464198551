use Rattle.std.proofs.Common.{map}
use Rattle.hq_sql_tree.specs.Tree.{all_of, preds_of}
use Rattle.hq_sql_tree.specs.View.{pred_view}
use Rattle.hq_sql_constants.specs.Ranged.{AsksAll}
use Rattle.hq_sql_constants.proofs.ranged.bounds_among.Given as goal

-- the comparisons so far are asked
abbrev pub invariant-loop-pred : goal.invariant-loop-pred
invariant-loop-pred l = AsksAll (all_of (preds_of (map pred_view l.pred-items))) l.alias l.name l.bounds.items
