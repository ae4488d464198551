use Rattle.std.proofs.Common.{◌≡◌, map, take, length}
use Rattle.hq_gql_nodes.specs.Names.{get_name}
use Rattle.hq_gql_nodes.specs.Nodes.{part_view}
use Rattle.hq_rules_reach.specs.Summaries.{AreSummaries}
use Rattle.hq_rules_reach.specs.Uses.{uses_view, all_uses, AreNumbers, AreNumbered}
use Rattle.hq_rules_reach.proofs.uses.all_uses.Given as goal

-- the uses that are needed of the parts so far, with their numbers
abbrev pub invariant-loop-part : goal.invariant-loop-part
invariant-loop-part l = record {
  numbers : AreNumbers (get_name l.numbers.names) l.numbers.count;
  numbered : AreNumbered (get_name l.numbers.names) l.all.items;
  long : length l.all.items ≡ l.part-index;
  summaries : AreSummaries (uses_view l.all.items) (all_uses (map part_view (take l.part-index l.parts)));
}
