-- What was noted still is.
use Rattle.hq_overlap_classes.proofs.classes.Classes.join_pair.Goals as goal

pub join-requires-clause-sound : goal.join-requires-clause-sound
join-requires-clause-sound c = c.requires.sound.partition

pub note_sets-requires-clause-sound : goal.note_sets-requires-clause-sound
note_sets-requires-clause-sound c = record { partition = c.in_ok-moved.ensures; firsts = c.requires.sound.firsts }
