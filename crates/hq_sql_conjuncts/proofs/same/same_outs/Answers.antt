use Rattle.std.proofs.Common.{◌≡◌, ◌∙◌, ap, ◌<◌, length, get_or, arith}
use Rattle.hq_sql_tree.specs.View.{out_view}
use Rattle.hq_sql_conjuncts.specs.Weight.{out_weight}
use Rattle.hq_sql_conjuncts.proofs.Beside.{alike_more}
use Rattle.hq_sql_conjuncts.proofs.same.same_outs.Goals as goal

pub loop-at-preserved : goal.loop-at-preserved
loop-at-preserved c =
    let xs = c.args.a.now.items in
    let ys = c.args.b.now.items in
    let i = c.loop-at.at in
    let item = c.out-item.result in
    let lent = c.deref-out-items.ensures.value in
    let in_xs : i < length xs = omega (arith, ap length lent) in
    let in_ys : i < length ys = omega (arith, ap length lent) in
    let is : item ≡ get_or xs i item = c.out-item.is ∙ ap (λ l. get_or l i item) lent in
    let passed = c.if-not-same_out.false in
    record {
      as_long = c.loop-at.invariant.as_long;
      views = alike_more out_view xs ys i item c.index.result.now in_xs in_ys is c.index.ensures c.loop-at.invariant.views (c.same_out.ensures.view passed);
      weights = alike_more out_weight xs ys i item c.index.result.now in_xs in_ys is c.index.ensures c.loop-at.invariant.weights (c.same_out.ensures.weight passed);
    }
