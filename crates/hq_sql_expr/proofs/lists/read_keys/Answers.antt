use Rattle.std.proofs.Common.{sym, ap, map, subst}
use Rattle.hq_sql_tree.specs.declared.word.Word.TheVariants as word
use Rattle.hq_sql_tree.specs.View.{order_view}
use Rattle.hq_sql_expr.specs.Reading.{Reads, all_many, order_with}
use Rattle.hq_sql_expr.proofs.Below.{expr_is}
use Rattle.hq_sql_expr.proofs.lists.read_keys.Goals as goal

pub returns : goal.returns
returns c =
    subst (Reads (λ x. (map order_view x.0.items, x.1.now)) c.order_list.result)
    (ap (λ e. all_many (order_with e) word.Comma c.args.bytes.now) (sym (expr_is c.args.depth))) c.order_list.ensures
