use Rattle.std.proofs.Common.{◌≡◌, ◌-◌, map}
use Rattle.hq_sql_tree.specs.declared.word.Word.TheVariants as word
use Rattle.hq_sql_tree.specs.View.{expr_view}
use Rattle.hq_sql_expr.specs.Reading.{expr_at, many, all_many}
use Rattle.hq_sql_expr.proofs.Many.{with_front}
use Rattle.hq_sql_expr.proofs.lists.read_exprs.Given as goal

abbrev pub invariant-loop : goal.invariant-loop
invariant-loop l = with_front (map expr_view l.found.items) (many (expr_at l.depth) word.Comma (l.end - l.counter) l.rest) ≡ all_many (expr_at l.depth) word.Comma l.bytes
