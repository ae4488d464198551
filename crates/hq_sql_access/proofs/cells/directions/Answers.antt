use Rattle.std.proofs.Common.{◌∙◌, ◌<◌, ◌∷◌, ◌++◌, [], length, sym, ap, arith}
use Rattle.hq_sql_tree.specs.View.{order_view}
use Rattle.hq_sql_access.specs.Keys.{direction_of}
use Rattle.hq_sql_tree.proofs.Next.{view_order}
use Rattle.hq_sql_access.proofs.Loops.{map_more}
use Rattle.hq_sql_access.proofs.cells.directions.Goals as goal

pub loop-key-preserved : goal.loop-key-preserved
loop-key-preserved c =
    let items = c.deref-key-items.result.now in
    let i = c.loop-key.key-index in
    let within : i < length items = omega arith in
    let done = c.loop-key.directions.items in
    map_more direction_of order_view items i c.key-item.result done c.push.new.self.items within c.key-item.is c.loop-key.invariant
    (c.in_ok-push.ensures.items ∙ ap (λ v. done ++ v ∷ []) (ap direction_of (sym (view_order c.key-item.result))))
