use Rattle.std.proofs.Common.{◌≡◌, drop, map}
use Rattle.hq_sql_tree.specs.Tree.{pairs_of}
use Rattle.hq_sql_tree.specs.View.{pair_view}
use Rattle.hq_sql_tree.specs.WellFormed.{are_values}
use Rattle.hq_sql_check.specs.Scopes.{scope_view}
use Rattle.hq_sql_check.proofs.values.+is_value.Given as goal

-- those that are left tell what all do
abbrev pub invariant-are_values-loop-pair : goal.invariant-are_values-loop-pair
invariant-are_values-loop-pair l = are_values (scope_view l.scope) (pairs_of (map pair_view (drop l.pair-index l.pair-items))) ≡ are_values (scope_view l.scope) (pairs_of (map pair_view l.pair-items))
