use Rattle.std.proofs.Common.{◌<◌, length, arith}
use Rattle.hq_sql_tree.specs.View.{out_view}
use Rattle.hq_sql_tree.specs.Form.{out_fits}
use Rattle.hq_sql_tree.proofs.Next.{all_pass}
use Rattle.hq_sql_tree.proofs.representable.outs_fit.Goals as goal

pub loop-out-preserved : goal.loop-out-preserved
loop-out-preserved c =
    let items = c.deref-out-items.result.now in
    let i = c.loop-out.out-index in
    let within : i < length items = omega arith in
    all_pass out_fits out_view items i c.out-item.result within c.out-item.is c.loop-out.invariant c.out_fits.ensures
