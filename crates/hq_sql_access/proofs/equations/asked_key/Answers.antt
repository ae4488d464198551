use Rattle.std.proofs.Common.{◌<◌, [], ◌∷◌, length, map, arith}
use Rattle.std.proofs.lemmas.List.{map-append}
use Rattle.hq_load_index.specs.Keys.{cell_view as key_view}
use Rattle.hq_sql_tree.specs.Tree.{joins_of}
use Rattle.hq_sql_tree.specs.View.{join_view, pred_view}
use Rattle.hq_sql_access.specs.Equations.{AsksCell}
use Rattle.hq_sql_access.proofs.Asked.{asks_more}
use Rattle.hq_sql_access.proofs.equations.asked_key.Goals as goal

pub loop-column-preserved : goal.loop-column-preserved
loop-column-preserved c =
    let columns = c.args.table.now.columns in
    let alias = c.args.alias.now in
    let js = joins_of (map join_view c.args.joins.now) in
    let p = pred_view c.args.pred.now in
    let scope = c.args.scope.now in
    let i = c.loop-column.column-index in
    let lt : i < length c.args.columns.now = omega (arith, c.loop-column-test.true) in
    let cell : AsksCell columns c.column-item.result alias js p scope (key_view c.in-Some.cell) = rw c.in-Some.is at c.in_ok-cell.ensures in
    rw (c.in_ok-push-in-Some.ensures.items, map-append key_view c.loop-column.key.items (c.in-Some.cell ∷ []))
    (asks_more columns c.args.columns.now i c.column-item.result alias js p scope (map key_view c.loop-column.key.items) (key_view c.in-Some.cell) lt c.column-item.is c.loop-column.invariant cell)
