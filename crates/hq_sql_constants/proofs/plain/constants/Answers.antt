use Rattle.std.proofs.Common.{◌<◌, ◌≡◌, ◌∙◌, [], length, map, sym, ap, arith}
use Rattle.hq_sql_cells.specs.View.{cell_view}
use Rattle.hq_sql_tree.specs.Meaning.{Scope as Names, value}
use Rattle.hq_sql_tree.specs.View.{expr_view}
use Rattle.hq_sql_constants.proofs.ColumnTests.{constants_more}
use Rattle.hq_sql_constants.proofs.plain.constants.Goals as goal

pub loop-expr-preserved : goal.loop-expr-preserved
loop-expr-preserved c m =
    let exprs = c.args.exprs.now in
    let i = c.loop-expr.expr-index in
    let lt : i < length exprs = omega (arith, c.loop-expr-test.true) in
    let known : (n : Names) → value (expr_view c.expr-item.result) [] n ≡ cell_view c.in-Some.cell = rw c.in-Some.is at c.constant.ensures in
    constants_more exprs i c.expr-item.result c.loop-expr.cells.items c.in-Some.cell m lt c.expr-item.is (c.loop-expr.invariant m)
    (known m)
    ∙ ap (map cell_view) (sym c.in_ok-push-in-Some.ensures.items)
