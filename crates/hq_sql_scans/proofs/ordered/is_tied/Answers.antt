use Rattle.std.proofs.Common.{rules, ◌≡◌, ◌∙◌, true, sym, subst}
use Rattle.hq_sql_tree.specs.View.{expr_view, order_view}
use Rattle.hq_sql_tree.specs.declared.expr.Order.{the_lemmas as order_lemmas}
use Rattle.hq_sql_scans.specs.Ordered.{is_own}
use Rattle.hq_sql_scans.proofs.Behind.{own_ties}
use Rattle.hq_sql_scans.proofs.ordered.is_tied.Goals as goal

pub returns : goal.returns
returns c e =
    let alias = c.args.alias.now in
    let key = c.args.key.now in
    let value : expr_view key.value ≡ (order_view key).value = search (rules, order_lemmas) in
    let is : is_own alias (expr_view key.value) ≡ true = sym c.is_own.ensures ∙ e in
    own_ties alias (order_view key) (subst (λ v. is_own alias v ≡ true) value is)
