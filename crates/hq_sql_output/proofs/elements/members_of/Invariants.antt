use Rattle.std.proofs.Common.{◌≤◌, map, take}
use Rattle.hq_sql_conjuncts.specs.Weight.{total, pair_weight}
use Rattle.hq_sql_tree.specs.View.{pair_view}
use Rattle.hq_sql_output.specs.Elements.{AreMembers, member_weight}
use Rattle.hq_sql_output.proofs.elements.members_of.Given as goal

abbrev pub invariant-loop-pair : goal.invariant-loop-pair
invariant-loop-pair l = record {
  texts : AreMembers l.columns l.alias (map pair_view (take l.pair-index l.pairs.items)) l.members.items;
  weight : total (map member_weight l.members.items) ≤ total (map pair_weight (take l.pair-index l.pairs.items));
}
