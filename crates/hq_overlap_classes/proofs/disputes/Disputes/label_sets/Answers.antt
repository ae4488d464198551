-- The fields of one more set.
use Rattle.hq_overlap_classes.proofs.disputes.Disputes.label_sets.Goals as goal

pub note_labels-requires-clause-sound : goal.note_labels-requires-clause-sound
note_labels-requires-clause-sound c = c.loop-number.invariant

pub loop-number-init : goal.loop-number-init
loop-number-init c = c.requires

pub loop-number-preserved : goal.loop-number-preserved
loop-number-preserved c = c.in_ok-note_labels.ensures

pub returns : goal.returns
returns c = c.loop-number.invariant
