-- What classes at fault lead to is at fault.
use Rattle.hq_overlap_sets.specs.Sets.{arena_view}
use Rattle.hq_overlap_classes.proofs.ReachLemmas.{all_reached}
use Rattle.hq_overlap_classes.proofs.leading.reached_by.Goals as goal

pub marks_of-requires : goal.marks_of-requires
marks_of-requires c =
    all_reached (arena_view c.args.arena.now) c.args.rows.now c.args.starts.now c.deref.result.now c.in_ok-found.found.items
    c.deref.ensures.value c.in_ok-found.ensures c.requires.edges c.requires.starts
