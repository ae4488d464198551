use Rattle.std.proofs.Common.{◌≡◌, ◌≤◌, ◌+◌, ◌-◌, ◌++◌, [], map, length, take}
use Rattle.hq_sql_tree.specs.View.{expr_view, pair_view}
use Rattle.hq_sql_conjuncts.specs.Weight.{total, expr_weight, pair_weight, select_weight, join_weight}
use Rattle.hq_sql_scans.specs.Positions.{positions_of}
use Rattle.hq_sql_access.specs.Sources.{has_items}
use Rattle.hq_sql_access.specs.View.{names_of}
use Rattle.hq_sql_access.specs.Weight.{scope_weight}
use Rattle.hq_sql_output.specs.Elements.{content_weight, element_weight, members_text, object_weight, text_at}
use Rattle.hq_sql_output.specs.Listed.{listed_weight}
use Rattle.hq_sql_output.specs.Placed.{found_before}
use Rattle.hq_sql_output.specs.TableRows.{values_at}
use Rattle.hq_sql_output.specs.Texts.{pairs_text, texts_of, more_texts}
use Rattle.hq_sql_output.proofs.written.+write.Given as goal

-- ---- loops: what is written so far

abbrev pub invariant-write_pairs-loop-at : goal.invariant-write_pairs-loop-at
invariant-write_pairs-loop-at l = l.out ≡ l.initial.out ++ pairs_text (map pair_view (take l.at l.pairs.items)) [] (names_of l.scope l.world)

abbrev pub invariant-write_elements-loop-at : goal.invariant-write_elements-loop-at
invariant-write_elements-loop-at l =
    l.out ≡ l.initial.out ++ more_texts l.begun (map (text_at l.element l.placed l.world l.scope) (take l.at l.places))

abbrev pub invariant-write_object-loop-at : goal.invariant-write_object-loop-at
invariant-write_object-loop-at l =
    l.out ≡ l.initial.out ++ members_text (take l.at l.object.members.items) (values_at l.object.table l.position) (names_of l.scope l.world)

abbrev pub invariant-write_found-loop-next : goal.invariant-write_found-loop-next
invariant-write_found-loop-next l = record {
  within : l.next ≤ length (positions_of l.positions);
  begun : l.begun ≡ has_items (found_before l.next l.placed l.positions l.filter l.world l.scope);
  out : l.out ≡ l.initial.out ++ texts_of (expr_view l.expr) (found_before l.next l.placed l.positions l.filter l.world l.scope);
}

-- ---- measures: what is left to write

abbrev pub decreases-write_value : goal.decreases-write_value
decreases-write_value l = expr_weight l.expr.now + scope_weight l.scope.now

abbrev pub decreases-write_pairs : goal.decreases-write_pairs
decreases-write_pairs l = 1 + (total (map pair_weight l.pairs.now.items) + scope_weight l.scope.now)

abbrev pub decreases-write_column : goal.decreases-write_column
decreases-write_column l = scope_weight l.scope.now

abbrev pub decreases-write_output : goal.decreases-write_output
decreases-write_output l = 2 + (select_weight l.select.now + scope_weight l.scope.now)

abbrev pub decreases-write_folded : goal.decreases-write_folded
decreases-write_folded l = 5 + (expr_weight l.expr.now + (select_weight l.select.now + scope_weight l.scope.now))

abbrev pub decreases-write_found-loop-next : goal.decreases-write_found-loop-next
decreases-write_found-loop-next l = length (positions_of l.positions) - l.next

abbrev pub decreases-write_rows : goal.decreases-write_rows
decreases-write_rows l = 10 + (listed_weight l.listed.now + scope_weight l.scope.now)

abbrev pub decreases-write_first : goal.decreases-write_first
decreases-write_first l = 9 + (expr_weight l.expr.now + (total (map join_weight l.placed.now.joins.now) + scope_weight l.scope.now))

abbrev pub decreases-write_all : goal.decreases-write_all
decreases-write_all l = 9 + (expr_weight l.expr.now + (total (map join_weight l.placed.now.joins.now) + scope_weight l.scope.now))

abbrev pub decreases-write_found : goal.decreases-write_found
decreases-write_found l = 8 + (expr_weight l.expr.now + (total (map join_weight l.placed.now.joins.now) + scope_weight l.scope.now))

abbrev pub decreases-write_each : goal.decreases-write_each
decreases-write_each l = 7 + (expr_weight l.expr.now + (total (map join_weight l.placed.now.joins.now) + scope_weight l.scope.now))

abbrev pub decreases-write_elements : goal.decreases-write_elements
decreases-write_elements l = 6 + (element_weight l.element + (total (map join_weight l.placed.now.joins.now) + scope_weight l.scope.now))

abbrev pub decreases-write_place : goal.decreases-write_place
decreases-write_place l = 5 + (element_weight l.element + (total (map join_weight l.placed.now.joins.now) + scope_weight l.scope.now))

abbrev pub decreases-write_at : goal.decreases-write_at
decreases-write_at l = 3 + (element_weight l.element + (total (map join_weight l.placed.now.joins.now) + scope_weight l.scope.now))

abbrev pub decreases-write_beside : goal.decreases-write_beside
decreases-write_beside l = 2 + (element_weight l.element + (total (map join_weight l.joins.now) + scope_weight l.scope.now))

abbrev pub decreases-write_object : goal.decreases-write_object
decreases-write_object l = object_weight l.object.now + scope_weight l.scope.now

abbrev pub decreases-write_content : goal.decreases-write_content
decreases-write_content l = 1 + (content_weight l.content.now + scope_weight l.scope.now)
