use Rattle.std.proofs.Common.{drop}
use Rattle.hq_rules_reach.specs.Summaries.{Ascends}
use Rattle.hq_rules_reach.proofs.summaries.ascends.Given as goal

-- if those that are left ascend from the last one, all do
abbrev pub invariant-loop-found : goal.invariant-loop-found
invariant-loop-found l = Ascends l.last (drop l.found-index l.uses) → Ascends 0 l.uses
