use Rattle.std.proofs.Common.{◌≡◌, drop, map}
use Rattle.hq_sql_tree.specs.Tree.{pairs_of}
use Rattle.hq_sql_tree.specs.View.{pair_view}
use Rattle.hq_confine_rules.specs.Uses.{show_order}
use Rattle.hq_confine_uses.proofs.uses.+shows.Given as goal

-- those that are left tell what all do
abbrev pub invariant-show_order-loop-pair : goal.invariant-show_order-loop-pair
invariant-show_order-loop-pair l = show_order (pairs_of (map pair_view (drop l.pair-index l.pair-items))) ≡ show_order (pairs_of (map pair_view l.pair-items))
