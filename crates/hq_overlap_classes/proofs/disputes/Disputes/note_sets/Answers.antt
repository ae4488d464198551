-- The fields of one more set.
use Rattle.hq_overlap_classes.proofs.disputes.Disputes.note_sets.Goals as goal

pub note_fields-requires-clause-sound : goal.note_fields-requires-clause-sound
note_fields-requires-clause-sound c = c.loop-number.invariant

pub loop-number-init : goal.loop-number-init
loop-number-init c = c.requires

pub loop-number-preserved : goal.loop-number-preserved
loop-number-preserved c = c.in_ok-note_fields.ensures

pub returns : goal.returns
returns c = c.loop-number.invariant
