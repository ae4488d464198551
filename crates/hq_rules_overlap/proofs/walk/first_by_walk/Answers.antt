-- A walk that has met no pair.
use Rattle.std.proofs.Common.{sym, subst}
use Rattle.hq_overlap_sets.specs.Sets.{arena_view}
use Rattle.hq_overlap_sets.specs.Together.{AreConflicts}
use Rattle.hq_rules_overlap.proofs.Closed.{start_sound}
use Rattle.hq_rules_overlap.proofs.walk.first_by_walk.Goals as goal

pub meet_each-requires : goal.meet_each-requires
meet_each-requires c =
    let sets = arena_view c.args.arena.now in
    start_sound sets c.start-walk.result c.start-walk.ensures.pairs c.start-walk.ensures.marks (subst (AreConflicts sets) (sym c.start-walk.ensures.best) c.requires)
