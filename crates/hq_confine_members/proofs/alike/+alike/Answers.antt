use Rattle.std.proofs.Common.{◌≡◌, ◌∙◌, ◌<◌, ◌≤◌, List, length, get_or, map, refl, sym, ap, arith, rules}
use Rattle.hq_sql_tree.specs.View.{pred_view}
use Rattle.hq_sql_tree.specs.declared.select.Pred.{Pred}
use Rattle.hq_sql_tree.specs.Tree.{preds_of}
use Rattle.hq_confine_rules.specs.Renamed.{is_alike, are_alike}
use Rattle.hq_confine_members.specs.Views.{renaming_view}
use Rattle.hq_confine_uses.proofs.Walks.{lists_differ, both_pass, both_fail, both_end}
use Rattle.hq_confine_members.proofs.alike.+alike.Goals as goal

-- lists of two lengths
pub are_alike-returns-then-len : goal.are_alike-returns-then-len
are_alike-returns-then-len t c =
    let r = renaming_view c.args.renaming.now in
    let F = λ (us vs : List Pred). are_alike r (preds_of (map pred_view us)) (preds_of (map pred_view vs)) in
    sym (lists_differ F (λ a b. is_alike r (pred_view a) (pred_view b)) (λ a b us vs. refl) (λ b vs. refl) (λ a us. refl) c.args.one.now.items c.args.other.now.items
    (λ e. c.if-len.true (let same : c.len.result ≡ c.len-2.result = search rules in same)))

-- two items that are alike
pub are_alike-loop-at-preserved : goal.are_alike-loop-at-preserved
are_alike-loop-at-preserved t c =
    let r = renaming_view c.args.renaming.now in
    let xs = c.args.one.now.items in
    let ys = c.args.other.now.items in
    let i = c.loop-at.at in
    let item = c.pred-item.result in
    let lent = c.deref-pred-items.ensures.value in
    let in_xs : i < length xs = omega (arith, ap length lent) in
    let in_ys : i < length ys = omega (arith, ap length lent) in
    let is : item ≡ get_or xs i item = c.pred-item.is ∙ ap (λ l. get_or l i item) lent in
    let F = λ (us vs : List Pred). are_alike r (preds_of (map pred_view us)) (preds_of (map pred_view vs)) in
    record {
      as_long = c.loop-at.invariant.as_long;
      left = both_pass F (λ a b. is_alike r (pred_view a) (pred_view b)) (λ a b us vs. refl) xs ys i item c.index.result.now in_xs in_ys is c.index.ensures c.loop-at.invariant.left
          (sym c.is_alike.ensures ∙ c.if-not-is_alike.false);
    }

-- two that are not
pub are_alike-returns-then-not-is_alike : goal.are_alike-returns-then-not-is_alike
are_alike-returns-then-not-is_alike t c =
    let r = renaming_view c.args.renaming.now in
    let xs = c.args.one.now.items in
    let ys = c.args.other.now.items in
    let i = c.loop-at.at in
    let item = c.pred-item.result in
    let lent = c.deref-pred-items.ensures.value in
    let in_xs : i < length xs = omega (arith, ap length lent) in
    let in_ys : i < length ys = omega (arith, ap length lent) in
    let is : item ≡ get_or xs i item = c.pred-item.is ∙ ap (λ l. get_or l i item) lent in
    let F = λ (us vs : List Pred). are_alike r (preds_of (map pred_view us)) (preds_of (map pred_view vs)) in
    both_fail F (λ a b. is_alike r (pred_view a) (pred_view b)) (λ a b us vs. refl) xs ys i item c.index.result.now in_xs in_ys is c.index.ensures c.loop-at.invariant.left
    (sym c.is_alike.ensures ∙ c.if-not-is_alike.true)

-- all are
pub are_alike-returns : goal.are_alike-returns
are_alike-returns t c =
    let r = renaming_view c.args.renaming.now in
    let xs = c.args.one.now.items in
    let ys = c.args.other.now.items in
    let i = c.loop-at.at in
    let lent = c.deref-pred-items.ensures.value in
    let over_xs : length xs ≤ i = omega (arith, ap length lent) in
    let over_ys : length ys ≤ i = omega (arith, ap length lent) in
    let F = λ (us vs : List Pred). are_alike r (preds_of (map pred_view us)) (preds_of (map pred_view vs)) in
    both_end F (λ a b. is_alike r (pred_view a) (pred_view b)) (λ a b us vs. refl) refl xs ys i over_xs over_ys c.loop-at.invariant.left
