-- The place is that of a conflict, too.
use Rattle.std.proofs.Common.{sym, subst}
use Rattle.hq_overlap_sets.specs.Sets.{arena_view}
use Rattle.hq_overlap_sets.specs.Together.{AreConflicts}
use Rattle.hq_overlap_sets.proofs.ArenaLemmas.{both_conflicts}
use Rattle.hq_rules_overlap.proofs.found.Found.add_conflict.Goals as goal

pub returns-clause-best : goal.returns-clause-best
returns-clause-best c =
    let sets = arena_view c.args.arena.now in
    subst (AreConflicts sets) (sym c.add.ensures.best) (both_conflicts sets c.args.self.now.best c.in_ok-conflict.conflict c.requires.best c.in_ok-conflict.ensures)
