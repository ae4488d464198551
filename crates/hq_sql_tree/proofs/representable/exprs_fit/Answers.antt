use Rattle.std.proofs.Common.{◌<◌, length, arith}
use Rattle.hq_sql_tree.specs.View.{expr_view}
use Rattle.hq_sql_tree.specs.Form.{expr_fits}
use Rattle.hq_sql_tree.proofs.Next.{all_pass}
use Rattle.hq_sql_tree.proofs.representable.exprs_fit.Goals as goal

pub loop-expr-preserved : goal.loop-expr-preserved
loop-expr-preserved c =
    let items = c.deref-expr-items.result.now in
    let i = c.loop-expr.expr-index in
    let within : i < length items = omega arith in
    all_pass expr_fits expr_view items i c.expr-item.result within c.expr-item.is c.loop-expr.invariant c.fits.ensures
