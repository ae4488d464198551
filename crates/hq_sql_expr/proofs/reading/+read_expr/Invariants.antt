use Rattle.std.proofs.Common.{◌≡◌, ◌+◌, ◌-◌, ◌*◌, map}
use Rattle.hq_sql_tree.specs.declared.word.Word.TheVariants as word
use Rattle.hq_sql_tree.specs.View.{pair_view, order_view}
use Rattle.hq_sql_expr.specs.Reading.{pair_with, order_with, expr_with, below, inside_at, many, all_many}
use Rattle.hq_sql_expr.proofs.Many.{with_front}
use Rattle.hq_sql_expr.proofs.reading.+read_expr.Given as goal

abbrev pub decreases-inside_below : goal.decreases-inside_below
decreases-inside_below l = 6 * l.depth

abbrev pub decreases-ordered_below : goal.decreases-ordered_below
decreases-ordered_below l = 6 * l.depth

abbrev pub decreases-expr_of : goal.decreases-expr_of
decreases-expr_of l = 6 * l.depth + 1

abbrev pub decreases-argument_of : goal.decreases-argument_of
decreases-argument_of l = 6 * l.depth + 2

abbrev pub decreases-pair_of : goal.decreases-pair_of
decreases-pair_of l = 6 * l.depth + 2

abbrev pub decreases-order_of : goal.decreases-order_of
decreases-order_of l = 6 * l.depth + 2

abbrev pub decreases-pair_list : goal.decreases-pair_list
decreases-pair_list l = 6 * l.depth + 3

abbrev pub decreases-order_list : goal.decreases-order_list
decreases-order_list l = 6 * l.depth + 3

abbrev pub decreases-pairs_of : goal.decreases-pairs_of
decreases-pairs_of l = 6 * l.depth + 4

abbrev pub decreases-ordered_of : goal.decreases-ordered_of
decreases-ordered_of l = 6 * l.depth + 4

abbrev pub decreases-inside_of : goal.decreases-inside_of
decreases-inside_of l = 6 * l.depth + 5

abbrev pub invariant-pair_list-loop : goal.invariant-pair_list-loop
invariant-pair_list-loop l =
    let item = pair_with (expr_with (λ h. below (inside_at h) l.depth)) in
    with_front (map pair_view l.found.items) (many item word.Comma (l.end - l.counter) l.rest) ≡ all_many item word.Comma l.bytes

abbrev pub invariant-order_list-loop : goal.invariant-order_list-loop
invariant-order_list-loop l =
    let item = order_with (expr_with (λ h. below (inside_at h) l.depth)) in
    with_front (map order_view l.found.items) (many item word.Comma (l.end - l.counter) l.rest) ≡ all_many item word.Comma l.bytes
