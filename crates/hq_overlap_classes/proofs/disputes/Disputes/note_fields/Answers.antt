-- One more field is noted.
use Rattle.hq_overlap_sets.specs.Pairs.{fields_at}
use Rattle.hq_overlap_sets.specs.Sets.{field_in, arena_view}
use Rattle.hq_overlap_sets.proofs.Stepping.{contained_item}
use Rattle.hq_overlap_classes.proofs.Joining.{stands_in_class}
use Rattle.hq_overlap_classes.proofs.disputes.Disputes.note_fields.Goals as goal

pub note-requires-clause-sound : goal.note-requires-clause-sound
note-requires-clause-sound c = c.loop-entry.invariant

pub note-requires-clause-stands : goal.note-requires-clause-stands
note-requires-clause-stands c =
    let sets = arena_view c.args.arena.now in
    let f = field_in c.args.arena.now in
    stands_in_class sets c.args.self.now.classes.sets c.class_of-class.result c.args.set (f c.entry-item.result) c.requires.sound.classes.partition c.class_of-class.ensures
    (contained_item f c.args.entries.now (fields_at sets c.args.set) c.loop-entry.entry-index c.entry-item.result c.requires.entries c.loop-entry-test.true c.entry-item.is)

pub loop-entry-init : goal.loop-entry-init
loop-entry-init c = c.requires.sound

pub loop-entry-preserved : goal.loop-entry-preserved
loop-entry-preserved c = c.in_ok-note.ensures

pub returns : goal.returns
returns c = c.loop-entry.invariant
