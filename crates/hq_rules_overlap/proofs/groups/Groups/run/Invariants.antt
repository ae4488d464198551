use Rattle.std.proofs.Common.{length, ◌≤◌}
use Rattle.hq_overlap_sets.specs.Sets.{arena_view}
use Rattle.hq_rules_overlap.specs.Exploring.{lists_of, Goes, IsSound}
use Rattle.hq_rules_overlap.specs.Groups.{AreExplored}
use Rattle.hq_rules_overlap.proofs.groups.Groups.run.Given as goal

-- the lists so far are explored
abbrev pub invariant-loop-at : goal.invariant-loop-at
invariant-loop-at l = record {
  sound : IsSound (arena_view l.arena) l.self;
  goes : Goes l.initial.self l.self;
  explored : AreExplored (arena_view l.arena) (lists_of l.self) l.self.found.least l.at;
  inside : l.at ≤ length (lists_of l.self);
}
