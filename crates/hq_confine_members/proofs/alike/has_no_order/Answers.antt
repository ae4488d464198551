use Rattle.std.proofs.Common.{◌==◌, ◌∙◌, ap, sym, List, length}
use Rattle.std.proofs.lemmas.List.{length-map}
use Rattle.hq_sql_tree.specs.declared.expr.Order.{Order}
use Rattle.hq_sql_tree.specs.View.{order_view}
use Rattle.hq_confine_members.proofs.alike.has_no_order.Goals as goal

pub returns : goal.returns
returns c = c.is_empty.ensures ∙ ap (λ (xs : List Order). length xs == 0) c.as_slice.ensures.value ∙ ap (λ n. n == 0) (sym (length-map c.args.order.now.items order_view))
