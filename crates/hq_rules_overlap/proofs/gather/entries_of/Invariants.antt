use Rattle.std.proofs.Common.{take, map}
use Rattle.hq_overlap_sets.specs.Sets.{field_in, arena_view}
use Rattle.hq_rules_overlap.specs.Groups.{AreOf}
use Rattle.hq_rules_overlap.proofs.gather.entries_of.Given as goal

-- the fields of the sets so far
abbrev pub invariant-loop-set : goal.invariant-loop-set
invariant-loop-set l = AreOf (arena_view l.arena) (take l.set-index l.group) (map (field_in l.arena) l.entries.items)
