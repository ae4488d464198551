use Rattle.std.proofs.Common.{◌∙◌, ap, ◌<◌, length, arith}
use Rattle.hq_sql_tree.specs.View.{order_view}
use Rattle.hq_sql_tree.specs.Form.{expr_fits, order_fits}
use Rattle.hq_sql_tree.proofs.Next.{all_pass, view_key}
use Rattle.hq_sql_tree.proofs.representable.orders_fit.Goals as goal

pub loop-order-preserved : goal.loop-order-preserved
loop-order-preserved c =
    let items = c.deref-order-items.result.now in
    let i = c.loop-order.order-index in
    let within : i < length items = omega arith in
    all_pass order_fits order_view items i c.order-item.result within c.order-item.is c.loop-order.invariant (ap expr_fits (view_key c.order-item.result) ∙ c.fits.ensures)
