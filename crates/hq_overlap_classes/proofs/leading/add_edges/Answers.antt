-- An edge for one more field.
use Rattle.hq_overlap_sets.specs.Pairs.{fields_at}
use Rattle.hq_overlap_sets.specs.Sets.{field_in, arena_view}
use Rattle.hq_overlap_sets.proofs.Stepping.{contained_item}
use Rattle.hq_overlap_classes.proofs.Joining.{stands_in_class}
use Rattle.hq_overlap_classes.proofs.leading.add_edges.Goals as goal

pub add_edge-requires-clause-edges : goal.add_edge-requires-clause-edges
add_edge-requires-clause-edges c = c.loop-entry.invariant

pub add_edge-requires-clause-stands : goal.add_edge-requires-clause-stands
add_edge-requires-clause-stands c =
    let sets = arena_view c.args.arena.now in
    let f = field_in c.args.arena.now in
    stands_in_class sets c.args.classes.now.sets c.class_of-class.result c.args.set (f c.entry-item.result) c.requires.sound.partition c.class_of-class.ensures
    (contained_item f c.args.entries.now (fields_at sets c.args.set) c.loop-entry.entry-index c.entry-item.result c.requires.entries c.loop-entry-test.true c.entry-item.is)

pub loop-entry-init : goal.loop-entry-init
loop-entry-init c = c.requires.edges

pub loop-entry-preserved : goal.loop-entry-preserved
loop-entry-preserved c = c.in_ok-add_edge.ensures

pub returns : goal.returns
returns c = c.loop-entry.invariant
