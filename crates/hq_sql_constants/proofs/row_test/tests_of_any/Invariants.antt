use Rattle.std.proofs.Common.{map, take}
use Rattle.hq_sql_access.specs.View.{world_of}
use Rattle.hq_sql_tree.specs.Tree.{any_of, preds_of}
use Rattle.hq_sql_tree.specs.View.{pred_view}
use Rattle.hq_sql_constants.specs.RowTests.{AreTests}
use Rattle.hq_sql_constants.proofs.row_test.tests_of_any.Given as goal

-- the tests of the conditions so far
abbrev pub invariant-loop-pred : goal.invariant-loop-pred
invariant-loop-pred l = AreTests (world_of l.world) l.columns l.alias (any_of (preds_of (map pred_view (take l.pred-index l.pred-items)))) l.tests.items
