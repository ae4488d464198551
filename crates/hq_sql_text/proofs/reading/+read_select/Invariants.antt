use Rattle.std.proofs.Common.{◌≡◌, ◌+◌, ◌-◌, ◌*◌, map}
use Rattle.hq_sql_tree.specs.declared.word.Word.TheVariants as word
use Rattle.hq_sql_tree.specs.View.{join_view, pred_view}
use Rattle.hq_sql_expr.specs.Reading.{below, many, all_many}
use Rattle.hq_sql_expr.proofs.Many.{with_front}
use Rattle.hq_sql_text.specs.Reading.{inside_at, join_with, pred_with, select_at}
use Rattle.hq_sql_text.proofs.reading.+read_select.Given as goal

abbrev pub decreases-select_below : goal.decreases-select_below
decreases-select_below l = 8 * l.depth

abbrev pub decreases-inside_below : goal.decreases-inside_below
decreases-inside_below l = 8 * l.depth

abbrev pub decreases-exists_of : goal.decreases-exists_of
decreases-exists_of l = 8 * l.depth + 1

abbrev pub decreases-aliased_of : goal.decreases-aliased_of
decreases-aliased_of l = 8 * l.depth + 1

abbrev pub decreases-pred_of : goal.decreases-pred_of
decreases-pred_of l = 8 * l.depth + 2

abbrev pub decreases-from_of : goal.decreases-from_of
decreases-from_of l = 8 * l.depth + 2

abbrev pub decreases-join_of : goal.decreases-join_of
decreases-join_of l = 8 * l.depth + 2

abbrev pub decreases-negated_of : goal.decreases-negated_of
decreases-negated_of l = 8 * l.depth + 3

abbrev pub decreases-pred_list : goal.decreases-pred_list
decreases-pred_list l = 8 * l.depth + 3

abbrev pub decreases-filter_clause : goal.decreases-filter_clause
decreases-filter_clause l = 8 * l.depth + 3

abbrev pub decreases-join_list : goal.decreases-join_list
decreases-join_list l = 8 * l.depth + 3

abbrev pub decreases-others_of : goal.decreases-others_of
decreases-others_of l = 8 * l.depth + 4

abbrev pub decreases-end_of : goal.decreases-end_of
decreases-end_of l = 8 * l.depth + 4

abbrev pub decreases-join_clause : goal.decreases-join_clause
decreases-join_clause l = 8 * l.depth + 4

abbrev pub decreases-joined_of : goal.decreases-joined_of
decreases-joined_of l = 8 * l.depth + 5

abbrev pub decreases-select_of : goal.decreases-select_of
decreases-select_of l = 8 * l.depth + 5

abbrev pub decreases-inside_of : goal.decreases-inside_of
decreases-inside_of l = 8 * l.depth + 6

abbrev pub invariant-join_list-loop : goal.invariant-join_list-loop
invariant-join_list-loop l =
    with_front (map join_view l.found.items) (many (join_with (below select_at l.depth)) word.LateralJoin (l.end - l.counter) l.rest)
    ≡ all_many (join_with (below select_at l.depth)) word.LateralJoin l.bytes

abbrev pub invariant-pred_list-loop : goal.invariant-pred_list-loop
invariant-pred_list-loop l =
    with_front (map pred_view l.found.items)
    (many (pred_with (below inside_at l.depth) (below select_at l.depth)) l.between (l.end - l.counter) l.rest)
    ≡ all_many (pred_with (below inside_at l.depth) (below select_at l.depth)) l.between l.bytes
