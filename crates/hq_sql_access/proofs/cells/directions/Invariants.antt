use Rattle.std.proofs.Common.{◌≡◌, map, take}
use Rattle.hq_sql_tree.specs.View.{order_view}
use Rattle.hq_sql_access.specs.Keys.{directions_of}
use Rattle.hq_sql_access.proofs.cells.directions.Given as goal

abbrev pub invariant-loop-key : goal.invariant-loop-key
invariant-loop-key l = l.directions.items ≡ directions_of (map order_view (take l.key-index l.key-items))
