-- One more set is noted, with what it spreads.
use Rattle.hq_overlap_classes.proofs.classes.Classes.note_all.Goals as goal

pub note_set-requires-clause-sound : goal.note_set-requires-clause-sound
note_set-requires-clause-sound c = c.loop-number.invariant.sound

pub note_set-requires-clause-pending : goal.note_set-requires-clause-pending
note_set-requires-clause-pending c = c.loop-number.invariant.pending

pub push_spreads-requires : goal.push_spreads-requires
push_spreads-requires c = record { pending = c.in_ok-note_set.ensures.pending }

pub loop-number-init : goal.loop-number-init
loop-number-init c = record { sound = c.requires.sound; pending = c.requires.pending }

pub loop-number-preserved : goal.loop-number-preserved
loop-number-preserved c = record { sound = c.in_ok-note_set.ensures.sound; pending = c.in_ok-push_spreads.ensures }

pub returns-clause-sound : goal.returns-clause-sound
returns-clause-sound c = c.loop-number.invariant.sound

pub returns-clause-pending : goal.returns-clause-pending
returns-clause-pending c = c.loop-number.invariant.pending
