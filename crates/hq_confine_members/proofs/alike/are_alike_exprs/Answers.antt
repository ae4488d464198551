use Rattle.std.proofs.Common.{◌≡◌, ◌∙◌, ◌<◌, ◌≤◌, List, length, get_or, map, refl, sym, ap, arith, rules}
use Rattle.hq_sql_tree.specs.View.{expr_view}
use Rattle.hq_sql_tree.specs.declared.expr.Expr.{Expr}
use Rattle.hq_confine_rules.specs.Renamed.{is_alike_expr, are_alike_exprs}
use Rattle.hq_confine_members.specs.Views.{renaming_view}
use Rattle.hq_confine_uses.proofs.Walks.{lists_differ, both_pass, both_fail, both_end}
use Rattle.hq_confine_members.proofs.alike.are_alike_exprs.Goals as goal

-- lists of two lengths
pub returns-then-len : goal.returns-then-len
returns-then-len c =
    let r = renaming_view c.args.renaming.now in
    let F = λ (us vs : List Expr). are_alike_exprs r (map expr_view us) (map expr_view vs) in
    sym (lists_differ F (λ a b. is_alike_expr r (expr_view a) (expr_view b)) (λ a b us vs. refl) (λ b vs. refl) (λ a us. refl) c.args.one.now.items c.args.other.now.items
    (λ e. c.if-len.true (let same : c.len.result ≡ c.len-2.result = search rules in same)))

-- two items that are alike
pub loop-at-preserved : goal.loop-at-preserved
loop-at-preserved c =
    let r = renaming_view c.args.renaming.now in
    let xs = c.args.one.now.items in
    let ys = c.args.other.now.items in
    let i = c.loop-at.at in
    let item = c.expr-item.result in
    let lent = c.deref-expr-items.ensures.value in
    let in_xs : i < length xs = omega (arith, ap length lent) in
    let in_ys : i < length ys = omega (arith, ap length lent) in
    let is : item ≡ get_or xs i item = c.expr-item.is ∙ ap (λ l. get_or l i item) lent in
    let F = λ (us vs : List Expr). are_alike_exprs r (map expr_view us) (map expr_view vs) in
    record {
      as_long = c.loop-at.invariant.as_long;
      left = both_pass F (λ a b. is_alike_expr r (expr_view a) (expr_view b)) (λ a b us vs. refl) xs ys i item c.index.result.now in_xs in_ys is c.index.ensures c.loop-at.invariant.left
          (sym c.is_alike_expr.ensures ∙ c.if-not-is_alike_expr.false);
    }

-- two that are not
pub returns-then-not-is_alike_expr : goal.returns-then-not-is_alike_expr
returns-then-not-is_alike_expr c =
    let r = renaming_view c.args.renaming.now in
    let xs = c.args.one.now.items in
    let ys = c.args.other.now.items in
    let i = c.loop-at.at in
    let item = c.expr-item.result in
    let lent = c.deref-expr-items.ensures.value in
    let in_xs : i < length xs = omega (arith, ap length lent) in
    let in_ys : i < length ys = omega (arith, ap length lent) in
    let is : item ≡ get_or xs i item = c.expr-item.is ∙ ap (λ l. get_or l i item) lent in
    let F = λ (us vs : List Expr). are_alike_exprs r (map expr_view us) (map expr_view vs) in
    both_fail F (λ a b. is_alike_expr r (expr_view a) (expr_view b)) (λ a b us vs. refl) xs ys i item c.index.result.now in_xs in_ys is c.index.ensures c.loop-at.invariant.left
    (sym c.is_alike_expr.ensures ∙ c.if-not-is_alike_expr.true)

-- all are
pub returns : goal.returns
returns c =
    let r = renaming_view c.args.renaming.now in
    let xs = c.args.one.now.items in
    let ys = c.args.other.now.items in
    let i = c.loop-at.at in
    let lent = c.deref-expr-items.ensures.value in
    let over_xs : length xs ≤ i = omega (arith, ap length lent) in
    let over_ys : length ys ≤ i = omega (arith, ap length lent) in
    let F = λ (us vs : List Expr). are_alike_exprs r (map expr_view us) (map expr_view vs) in
    both_end F (λ a b. is_alike_expr r (expr_view a) (expr_view b)) (λ a b us vs. refl) refl xs ys i over_xs over_ys c.loop-at.invariant.left
