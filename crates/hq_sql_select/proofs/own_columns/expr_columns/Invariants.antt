use Rattle.std.proofs.Common.{◌≡◌, length, map, take}
use Rattle.hq_sql_tree.specs.View.{expr_view}
use Rattle.hq_sql_select.specs.Gathered.{joins_view}
use Rattle.hq_sql_select.specs.OwnColumns.{AreCellsOf}
use Rattle.hq_sql_select.proofs.own_columns.expr_columns.Given as goal

abbrev pub invariant-loop-expr : goal.invariant-loop-expr
invariant-loop-expr l = record {
  long : length l.own.items ≡ l.expr-index;
  cells : AreCellsOf l.source l.alias (joins_view l.joins) (map expr_view (take l.expr-index l.exprs.items)) l.own.items;
}
