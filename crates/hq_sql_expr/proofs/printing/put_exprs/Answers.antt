use Rattle.std.proofs.Common.{List, map, refl}
use Rattle.hq_sql_tree.specs.declared.expr.Expr.{Expr}
use Rattle.hq_sql_tree.specs.declared.word.Word.TheVariants as word
use Rattle.hq_sql_tree.specs.Spelling.{expr_text}
use Rattle.hq_sql_tree.specs.View.{expr_view}
use Rattle.hq_sql_expr.proofs.Between.{rest_of-more, rest_of-end}
use Rattle.hq_sql_expr.proofs.printing.put_exprs.Goals as goal

pub loop-i-preserved : goal.loop-i-preserved
loop-i-preserved c =
    let below = rw c.deref-expr-items.ensures.value at c.loop-i-test.true in
    let is = rw c.deref-expr-items.ensures.value at c.expr-item.is in
    rest_of-more word.Comma (λ (xs : List Expr). map expr_text (map expr_view xs)) c.args.exprs.now.items c.loop-i.i c.expr-item.result
    (expr_text (expr_view c.expr-item.result)) c.loop-i.out.items c.put_between.new.out.items c.put_expr.new.out.items _
    c.loop-i.invariant below is refl c.in_ok-put_between.ensures c.in_ok-put_expr.ensures

pub returns : goal.returns
returns c =
    let over = rw c.deref-expr-items.ensures.value at c.loop-i-test.false in
    rest_of-end word.Comma c.loop-i.i (λ (xs : List Expr). map expr_text (map expr_view xs)) c.args.exprs.now.items c.loop-i.i c.loop-i.out.items _ refl over c.loop-i.invariant
