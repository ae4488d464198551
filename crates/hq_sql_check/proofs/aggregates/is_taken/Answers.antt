use Rattle.std.proofs.Common.{◌≡◌, ◌∙◌, ◌&&◌, sym, ap, map, true}
use Rattle.hq_sql_tree.specs.Tree.{orders_of}
use Rattle.hq_sql_tree.specs.View.{agg_view, expr_view, order_view}
use Rattle.hq_sql_tree.specs.WellFormed.{is_member, are_keys, is_taken}
use Rattle.hq_sql_tree.proofs.Views.{view_json_agg}
use Rattle.hq_sql_check.specs.Scopes.{scope_view}
use Rattle.hq_sql_check.proofs.Keys.{keys_tested}
use Rattle.hq_sql_check.proofs.aggregates.is_taken.Goals as goal

pub returns-in_ok-are_keys-in-JsonAgg : goal.returns-in_ok-are_keys-in-JsonAgg
returns-in_ok-are_keys-in-JsonAgg c =
    let scope = scope_view c.args.scope.now in
    let agg = c.in-JsonAgg in
    let keys = map order_view agg.order.items in
    let seen = ap agg_view agg.is ∙ view_json_agg agg.value agg.order in
    let value : is_member scope (expr_view agg.value.value) ≡ true =
    ap (λ e. is_member scope (expr_view e)) (sym c.deref-in-JsonAgg.ensures) ∙ sym c.in_ok-is_member-in-JsonAgg.ensures ∙ c.if-branch-2.true in
    c.in_ok-are_keys-in-JsonAgg.ensures ∙ sym (keys_tested scope keys) ∙ ap (λ b. b && are_keys scope (orders_of keys)) (sym value) ∙ ap (is_taken scope) (sym seen)
