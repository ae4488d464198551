use Rattle.std.proofs.Common.{sym, ap, subst}
use Rattle.hq_sql_tree.specs.View.{select_view}
use Rattle.hq_sql_expr.specs.Reading.{Reads}
use Rattle.hq_sql_text.proofs.Below.{select_is}
use Rattle.hq_sql_text.proofs.reading.select_top.Goals as goal

pub returns : goal.returns
returns c = subst (Reads (λ x. (select_view x.0.value, x.1.now)) c.select_of.result) (ap (λ s. s c.args.bytes.now) (sym (select_is c.args.depth))) c.select_of.ensures
