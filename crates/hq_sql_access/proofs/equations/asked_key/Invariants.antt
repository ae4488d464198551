use Rattle.std.proofs.Common.{map, take}
use Rattle.hq_load_index.specs.Keys.{cell_view}
use Rattle.hq_sql_tree.specs.Tree.{joins_of}
use Rattle.hq_sql_tree.specs.View.{join_view, pred_view}
use Rattle.hq_sql_access.specs.Equations.{AsksKey}
use Rattle.hq_sql_access.proofs.equations.asked_key.Given as goal

-- the cells of the columns so far
abbrev pub invariant-loop-column : goal.invariant-loop-column
invariant-loop-column l = AsksKey l.table.columns (take l.column-index l.columns) l.alias (joins_of (map join_view l.joins)) (pred_view l.pred) l.scope (map cell_view l.key.items)
