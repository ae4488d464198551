use Rattle.std.proofs.Common.{◌≡◌, drop, map}
use Rattle.hq_sql_tree.specs.Tree.{pairs_of}
use Rattle.hq_sql_tree.specs.View.{pair_view}
use Rattle.hq_sql_tree.specs.Form.{hold_agg}
use Rattle.hq_sql_tree.proofs.+holds_agg.Given as goal

abbrev pub invariant-form::hold_agg-loop-pair : goal.invariant-form::hold_agg-loop-pair
invariant-form::hold_agg-loop-pair l = hold_agg (pairs_of (map pair_view (drop l.pair-index l.pair-items))) ≡ hold_agg (pairs_of (map pair_view l.pair-items))
