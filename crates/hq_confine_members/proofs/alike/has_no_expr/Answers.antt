use Rattle.std.proofs.Common.{◌==◌, ◌∙◌, ap, sym, List, length}
use Rattle.std.proofs.lemmas.List.{length-map}
use Rattle.hq_sql_tree.specs.declared.expr.Expr.{Expr}
use Rattle.hq_sql_tree.specs.View.{expr_view}
use Rattle.hq_confine_members.proofs.alike.has_no_expr.Goals as goal

pub returns : goal.returns
returns c = c.is_empty.ensures ∙ ap (λ (xs : List Expr). length xs == 0) c.as_slice.ensures.value ∙ ap (λ n. n == 0) (sym (length-map c.args.exprs.now.items expr_view))
