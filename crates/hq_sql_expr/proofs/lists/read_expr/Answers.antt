use Rattle.std.proofs.Common.{sym, ap, subst}
use Rattle.hq_sql_tree.specs.View.{expr_view}
use Rattle.hq_sql_expr.specs.Reading.{Reads}
use Rattle.hq_sql_expr.proofs.Below.{expr_is}
use Rattle.hq_sql_expr.proofs.lists.read_expr.Goals as goal

pub returns : goal.returns
returns c = subst (Reads (λ x. (expr_view x.0, x.1.now)) c.expr_of.result) (ap (λ e. e c.args.bytes.now) (sym (expr_is c.args.depth))) c.expr_of.ensures
