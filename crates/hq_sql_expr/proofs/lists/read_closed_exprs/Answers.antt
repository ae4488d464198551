use Rattle.std.proofs.Common.{◌<◌, map, sym, subst, arith}
use Rattle.hq_sql_tree.specs.View.{expr_view}
use Rattle.hq_sql_expr.specs.Reading.{Reads, closed_exprs}
use Rattle.hq_sql_expr.proofs.Below.{below_is}
use Rattle.hq_sql_expr.proofs.lists.read_closed_exprs.Goals as goal

pub returns : goal.returns
returns c =
    let lt : 0 < c.args.depth = omega arith in
    subst (Reads (λ x. (map expr_view x.0.items, x.1.now)) c.closed_of.result) (sym (below_is (closed_exprs c.args.close) c.args.depth c.args.bytes.now lt)) c.closed_of.ensures
