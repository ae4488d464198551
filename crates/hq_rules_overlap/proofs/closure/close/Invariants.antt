use Rattle.hq_overlap_sets.specs.Sets.{arena_view}
use Rattle.hq_rules_overlap.specs.Groups.{HasAll, AreTogether}
use Rattle.hq_rules_overlap.proofs.Growth.{HaveSpreads}
use Rattle.hq_rules_overlap.proofs.closure.close.Given as goal

-- the sets so far have what they spread in the group
abbrev pub invariant-loop-at : goal.invariant-loop-at
invariant-loop-at l = record {
  has : HasAll l.group.items l.initial.group.items;
  together : AreTogether (arena_view l.arena) l.group.items;
  spreads : HaveSpreads (arena_view l.arena) l.group.items l.at;
}
