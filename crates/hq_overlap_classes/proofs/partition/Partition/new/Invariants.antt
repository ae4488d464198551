use Rattle.hq_overlap_sets.specs.Sets.{arena_view}
use Rattle.hq_overlap_classes.proofs.Joining.{Pushed}
use Rattle.hq_overlap_classes.proofs.partition.Partition.new.Given as goal

-- each set so far is alone in its class
abbrev pub invariant-loop-number : goal.invariant-loop-number
invariant-loop-number l = Pushed (arena_view l.arena) l.partition l.number
