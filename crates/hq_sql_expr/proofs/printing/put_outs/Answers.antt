use Rattle.std.proofs.Common.{List, map, refl}
use Rattle.hq_sql_tree.specs.declared.select.Out.{Out}
use Rattle.hq_sql_tree.specs.declared.word.Word.TheVariants as word
use Rattle.hq_sql_tree.specs.Spelling.{out_text}
use Rattle.hq_sql_tree.specs.View.{out_view}
use Rattle.hq_sql_expr.proofs.Between.{rest_of-more, rest_of-end}
use Rattle.hq_sql_expr.proofs.printing.put_outs.Goals as goal

pub loop-i-preserved : goal.loop-i-preserved
loop-i-preserved c =
    let below = rw c.deref-output-items.ensures.value at c.loop-i-test.true in
    let is = rw c.deref-output-items.ensures.value at c.output-item.is in
    rest_of-more word.Comma (λ (xs : List Out). map out_text (map out_view xs)) c.args.outs.now.items c.loop-i.i c.output-item.result
    (out_text (out_view c.output-item.result)) c.loop-i.out.items c.put_between.new.out.items c.put_out.new.out.items _ c.loop-i.invariant
    below is refl c.in_ok-put_between.ensures c.in_ok-put_out.ensures

pub returns : goal.returns
returns c =
    let over = rw c.deref-output-items.ensures.value at c.loop-i-test.false in
    rest_of-end word.Comma c.loop-i.i (λ (xs : List Out). map out_text (map out_view xs)) c.args.outs.now.items c.loop-i.i c.loop-i.out.items _ refl over c.loop-i.invariant
