use Rattle.std.specs.List.{All}
use Rattle.hq_overlap_sets.specs.Sets.{arena_view}
use Rattle.hq_overlap_classes.specs.Classes.{AtFault}
use Rattle.hq_overlap_classes.proofs.leading.starts.Given as goal

-- the classes so far are at fault
abbrev pub invariant-loop-key : goal.invariant-loop-key
invariant-loop-key l = All (AtFault (arena_view l.arena)) l.starts.items
