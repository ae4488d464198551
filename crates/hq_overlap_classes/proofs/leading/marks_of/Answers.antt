-- One more class is marked.
use Rattle.std.proofs.lemmas.List.Elements.{All-get_or}
use Rattle.hq_overlap_sets.specs.Sets.{arena_view}
use Rattle.hq_overlap_classes.specs.Classes.{AtFault}
use Rattle.hq_overlap_classes.proofs.leading.marks_of.Goals as goal

pub mark-requires-clause-marks : goal.mark-requires-clause-marks
mark-requires-clause-marks c = c.loop-place.invariant

pub mark-requires-clause-fault : goal.mark-requires-clause-fault
mark-requires-clause-fault c = All-get_or (AtFault (arena_view c.args.arena.now)) c.args.places.now c.loop-place.place-index _ c.loop-place-test.true c.requires

pub loop-place-preserved : goal.loop-place-preserved
loop-place-preserved c = c.mark.ensures

pub returns : goal.returns
returns c = c.loop-place.invariant
