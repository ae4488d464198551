use Rattle.std.proofs.Common.{◌≡◌, ◌+◌, ◌++◌, map, take}
use Rattle.hq_sql_conjuncts.specs.Weight.{total, expr_weight, pair_weight}
use Rattle.hq_sql_tree.specs.View.{pair_view}
use Rattle.hq_sql_access.specs.View.{world_of, names_of}
use Rattle.hq_sql_output.specs.Grouped.{group_in}
use Rattle.hq_sql_output.specs.Texts.{pairs_text}
use Rattle.hq_sql_output.proofs.grouped.+grouped.Given as goal

abbrev pub invariant-write_pairs-loop-at : goal.invariant-write_pairs-loop-at
invariant-write_pairs-loop-at l =
    l.out ≡ l.initial.out ++ pairs_text (map pair_view (take l.at l.pairs.items)) (group_in l.group (world_of l.world) (names_of l.scope l.world)) (names_of l.scope l.world)

abbrev pub decreases-write_grouped : goal.decreases-write_grouped
decreases-write_grouped l = expr_weight l.expr.now

abbrev pub decreases-write_pairs : goal.decreases-write_pairs
decreases-write_pairs l = 1 + total (map pair_weight l.pairs.now.items)
