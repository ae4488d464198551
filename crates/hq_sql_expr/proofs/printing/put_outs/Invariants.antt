use Rattle.std.proofs.Common.{◌≡◌, ◌++◌, drop, map}
use Rattle.hq_sql_tree.specs.declared.word.Word.TheVariants as word
use Rattle.hq_sql_tree.specs.View.{out_view}
use Rattle.hq_sql_tree.specs.Spelling.{separated, out_text}
use Rattle.hq_sql_expr.proofs.Between.{rest_of}
use Rattle.hq_sql_expr.proofs.printing.put_outs.Given as goal

abbrev pub invariant-loop-i : goal.invariant-loop-i
invariant-loop-i l =
    l.out.items ++ rest_of word.Comma l.i (map out_text (map out_view (drop l.i l.outs.items)))
    ≡ l.initial.out.items ++ separated word.Comma (map out_text (map out_view l.outs.items))
