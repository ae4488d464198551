use Rattle.std.proofs.Common.{◌≡◌, ◌++◌, drop, map}
use Rattle.hq_sql_tree.specs.Tree.{pairs_of}
use Rattle.hq_sql_tree.specs.View.{pair_view}
use Rattle.hq_sql_tree.specs.WellFormed.{pair_names}
use Rattle.hq_sql_check.specs.Scopes.{texts}
use Rattle.hq_sql_check.proofs.differ.pairs_differ.Given as goal

-- the names so far, and those that are left
abbrev pub invariant-loop-pair : goal.invariant-loop-pair
invariant-loop-pair l = texts l.names.items ++ pair_names (pairs_of (map pair_view (drop l.pair-index l.pair-items))) ≡ pair_names (pairs_of (map pair_view l.pair-items))
