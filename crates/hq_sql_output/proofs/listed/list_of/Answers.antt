use Rattle.std.proofs.Common.{rules, ◌≡◌, map, true, subst, sym, ap, ap₂, ◌∙◌}
use Rattle.hq_sql_tree.specs.declared.expr.Agg.{the_lemmas as agg_lemmas}
use Rattle.hq_sql_tree.specs.declared.expr.Expr.{the_lemmas as expr_lemmas}
use Rattle.hq_sql_tree.specs.declared.select.Select.{the_lemmas as select_lemmas}
use Rattle.hq_sql_tree.specs.Tree.{aggregate, json_agg, orders_of, joins_of, rows}
use Rattle.hq_sql_tree.specs.View.{expr_view, out_view, order_view, select_view, from_view, join_view, filter_view}
use Rattle.hq_sql_tree.specs.Meaning.{scopes_of}
use Rattle.hq_sql_output.specs.Listed.{IsOutput, AreKeys}
use Rattle.hq_sql_output.specs.Selected.{page_of}
use Rattle.hq_sql_output.specs.Texts.{folded_text}
use Rattle.hq_sql_output.proofs.Sorted.{page_ascends, listed_is}
use Rattle.hq_sql_output.proofs.listed.list_of.Goals as goal

pub returns-clause-listed : goal.returns-clause-listed
returns-clause-listed c =
    let a = c.args.alias.now in
    let O = map out_view c.in-Rows.outs.items in
    let D = map expr_view c.in-Rows.distinct.items in
    let F = from_view c.in-Rows.from in
    let J = joins_of (map join_view c.as_slice-5.result.now) in
    let C = filter_view c.in-Rows.filter in
    let K = map order_view c.in-Rows.order.items in
    let l = c.in-Rows.limit in
    let o = c.in-Rows.offset in
    let v = expr_view c.in-Agg-JsonAgg.value.value in
    let os = map order_view c.in-Agg-JsonAgg.keys.items in
    let e = expr_view c.in-Some.element.now in
    let expr : expr_view c.args.expr.now ≡ aggregate (json_agg v (orders_of os)) = search (rules, expr_lemmas, agg_lemmas) in
    let whole : select_view c.args.select.now ≡ rows D O F (joins_of (map join_view c.in-Rows.joins.items)) C K l o = search (rules, select_lemmas) in
    let select : select_view c.args.select.now ≡ rows D O F J C K l o = whole ∙ ap (λ js. rows D O F (joins_of (map join_view js)) C K l o) (sym c.as_slice-5.ensures.value) in
    let lent : c.deref.result.now ≡ c.in-Agg-JsonAgg.value.value = search rules in
    let output : IsOutput a O v e =
    subst (λ x. IsOutput a O (expr_view x) e) lent (subst (λ x. IsOutput a (map out_view x) (expr_view c.deref.result.now) e) c.as_slice-4.ensures.value c.in-Some.ensures.value) in
    let tested : c.are_keys.result ≡ true = search rules in
    let keys : AreKeys a O os K =
    subst (λ x. AreKeys a O (map order_view x) K) c.as_slice.ensures.value
    (subst (λ x. AreKeys a (map out_view x) (map order_view c.as_slice.result.now) K) c.as_slice-2.ensures.value
    (subst (λ x. AreKeys a (map out_view c.as_slice-2.result.now) (map order_view c.as_slice.result.now) (map order_view x)) c.as_slice-3.ensures.value (c.are_keys.ensures tested))) in
    record {
      text = λ w n.
          ap₂ (λ x s. folded_text x s a w n) expr select
          ∙ listed_is a O n v e os K (page_of D J C K l o w (scopes_of F w n)) output keys (page_ascends D J C K l o w (scopes_of F w n));
    }
