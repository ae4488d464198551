-- One more set is alone in its class.
use Rattle.std.proofs.Common.{ap, length}
use Rattle.hq_overlap_sets.specs.Sets.{arena_view}
use Rattle.hq_overlap_classes.proofs.Joining.{no_partition, partition_push}
use Rattle.hq_overlap_classes.proofs.partition.Partition.new.Goals as goal

pub loop-number-init : goal.loop-number-init
loop-number-init c =
    let made = c.empty-partition.ensures in
    record {
      sound = no_partition (arena_view c.args.arena.now) c.empty-partition.result made.classes made.members;
      classes = ap length made.classes;
      members = ap length made.members;
    }

pub loop-number-preserved : goal.loop-number-preserved
loop-number-preserved c =
    partition_push (arena_view c.args.arena.now) c.loop-number.partition c.push.new.self c.loop-number.number c.loop-number.invariant.classes c.loop-number.invariant.members
    c.in_ok-push.ensures.classes c.in_ok-push.ensures.members c.loop-number.invariant.sound
