use Rattle.std.proofs.Common.{◌≡◌, length, take}
use Rattle.hq_sql_select.specs.Gathered.{joins_view}
use Rattle.hq_sql_select.specs.OwnColumns.{AreCellsOf, key_exprs}
use Rattle.hq_sql_select.proofs.own_columns.key_columns.Given as goal

abbrev pub invariant-loop-key : goal.invariant-loop-key
invariant-loop-key l = record {
  long : length l.own.items ≡ l.key-index;
  cells : AreCellsOf l.source l.alias (joins_view l.joins) (key_exprs (take l.key-index l.order.items)) l.own.items;
}
