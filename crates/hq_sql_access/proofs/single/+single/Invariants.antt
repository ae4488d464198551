use Rattle.std.proofs.Common.{◌≡◌, map, drop}
use Rattle.hq_sql_tree.specs.Tree.{joins_of}
use Rattle.hq_sql_tree.specs.View.{join_view}
use Rattle.hq_sql_access.specs.Single.{are_single}
use Rattle.hq_sql_access.proofs.single.+single.Given as goal

abbrev pub invariant-are_single-loop-join : goal.invariant-are_single-loop-join
invariant-are_single-loop-join l = are_single (joins_of (map join_view (drop l.join-index l.join-items))) ≡ are_single (joins_of (map join_view l.join-items))
