use Rattle.std.proofs.Common.{map, take}
use Rattle.hq_sql_tree.specs.Tree.{any_of, preds_of}
use Rattle.hq_sql_tree.specs.View.{pred_view}
use Rattle.hq_sql_access.specs.View.{world_of}
use Rattle.hq_sql_constants.specs.Listed.{AsksOneOf}
use Rattle.hq_sql_constants.proofs.listed.of_any.Given as goal

-- the constants of the conditions so far
abbrev pub invariant-loop-pred : goal.invariant-loop-pred
invariant-loop-pred l = AsksOneOf (world_of l.world) (any_of (preds_of (map pred_view (take l.pred-index l.pred-items)))) l.alias l.name l.values.items
