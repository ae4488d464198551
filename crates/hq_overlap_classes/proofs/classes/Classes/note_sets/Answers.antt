-- One more set is noted.
use Rattle.hq_overlap_classes.proofs.classes.Classes.note_sets.Goals as goal

pub note_set-requires-clause-sound : goal.note_set-requires-clause-sound
note_set-requires-clause-sound c = c.loop-set.invariant.sound

pub note_set-requires-clause-pending : goal.note_set-requires-clause-pending
note_set-requires-clause-pending c = c.loop-set.invariant.pending

pub loop-set-init : goal.loop-set-init
loop-set-init c = record { sound = c.requires.sound; pending = c.requires.pending }

pub loop-set-preserved : goal.loop-set-preserved
loop-set-preserved c = record { sound = c.in_ok-note_set.ensures.sound; pending = c.in_ok-note_set.ensures.pending }

pub returns-clause-sound : goal.returns-clause-sound
returns-clause-sound c = c.loop-set.invariant.sound

pub returns-clause-pending : goal.returns-clause-pending
returns-clause-pending c = c.loop-set.invariant.pending
