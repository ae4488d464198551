use Rattle.std.proofs.Common.{◌≡◌, ◌-◌, map}
use Rattle.hq_sql_tree.specs.declared.word.Word.TheVariants as word
use Rattle.hq_sql_tree.specs.View.{out_view}
use Rattle.hq_sql_expr.specs.Reading.{out_with, expr_at, many, all_many}
use Rattle.hq_sql_expr.proofs.Many.{with_front}
use Rattle.hq_sql_expr.proofs.lists.read_outs.Given as goal

abbrev pub invariant-loop : goal.invariant-loop
invariant-loop l = with_front (map out_view l.found.items) (many (out_with (expr_at l.depth)) word.Comma (l.end - l.counter) l.rest) ≡ all_many (out_with (expr_at l.depth)) word.Comma l.bytes
