use Rattle.std.proofs.Common.{◌≡◌, drop, map}
use Rattle.hq_sql_tree.specs.Tree.{pairs_of}
use Rattle.hq_sql_tree.specs.View.{pair_view}
use Rattle.hq_sql_tree.specs.WellFormed.{are_folded}
use Rattle.hq_sql_check.specs.Scopes.{scope_view}
use Rattle.hq_sql_check.proofs.aggregates.+is_folded.Given as goal

-- those that are left tell what all do
abbrev pub invariant-are_folded-loop-pair : goal.invariant-are_folded-loop-pair
invariant-are_folded-loop-pair l = are_folded (scope_view l.scope) (pairs_of (map pair_view (drop l.pair-index l.pair-items))) ≡ are_folded (scope_view l.scope) (pairs_of (map pair_view l.pair-items))
