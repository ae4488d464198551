-- One more pair is joined.
use Rattle.hq_overlap_sets.specs.Sets.{arena_view}
use Rattle.hq_overlap_classes.proofs.Joining.{popped}
use Rattle.hq_overlap_classes.proofs.classes.Classes.join_all.Goals as goal

pub join_pair-requires-clause-sound : goal.join_pair-requires-clause-sound
join_pair-requires-clause-sound c = c.loop.invariant.sound

pub join_pair-requires-clause-pending : goal.join_pair-requires-clause-pending
join_pair-requires-clause-pending c = (popped (arena_view c.args.arena.now) c.loop.pending.items c.pop.new.self.items c.in-Some.pair c.loop.invariant.pending c.in-Some.ensures.items).0

pub join_pair-requires-clause-joined : goal.join_pair-requires-clause-joined
join_pair-requires-clause-joined c = (popped (arena_view c.args.arena.now) c.loop.pending.items c.pop.new.self.items c.in-Some.pair c.loop.invariant.pending c.in-Some.ensures.items).1

pub loop-init : goal.loop-init
loop-init c = record { sound = c.requires.sound; pending = c.requires.pending }

pub loop-preserved : goal.loop-preserved
loop-preserved c = record { sound = c.in_ok-join_pair.ensures.sound; pending = c.in_ok-join_pair.ensures.pending }

pub returns-in_default : goal.returns-in_default
returns-in_default c = c.loop.invariant.sound

pub returns : goal.returns
returns c = c.loop.invariant.sound
