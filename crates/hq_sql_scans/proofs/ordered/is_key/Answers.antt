use Rattle.std.proofs.Common.{rules, ◌≡◌, ◌∙◌, true, Some, bytes_eq, sym, subst}
use Rattle.std.specs.List.{position}
use Rattle.hq_sql_tree.specs.View.{expr_view, order_view}
use Rattle.hq_sql_tree.specs.declared.expr.Order.{the_lemmas as order_lemmas}
use Rattle.hq_model.specs.declared.table.Column.{Column}
use Rattle.hq_sql_access.specs.Equations.{is_column}
use Rattle.hq_sql_scans.proofs.InOrder.{key_is}
use Rattle.hq_sql_scans.proofs.ordered.is_key.Goals as goal

pub returns-in-Some : goal.returns-in-Some
returns-in-Some c e =
    let columns = c.args.table.now.columns in
    let alias = c.args.alias.now in
    let name = c.in-Some.name.now in
    let key = c.args.key.now in
    let first : position (λ (k : Column). bytes_eq k.name name) columns ≡ Some c.args.column = rw c.in-Some.is at c.name_of.ensures in
    let value : expr_view key.value ≡ (order_view key).value = search (rules, order_lemmas) in
    let desc : (order_view key).desc ≡ key.desc = search (rules, order_lemmas) in
    let is : is_column alias name (expr_view key.value) ≡ true = sym c.is_column.ensures ∙ e in
    key_is c.args.desc columns c.args.column alias name (order_view key) (desc ∙ c.are_alike.ensures c.if-not-are_alike.false) first (subst (λ v. is_column alias name v ≡ true) value is)
