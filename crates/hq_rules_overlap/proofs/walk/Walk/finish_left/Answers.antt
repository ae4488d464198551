-- The right set, if there is one.
use Rattle.std.proofs.Common.{sym}
use Rattle.hq_overlap_sets.proofs.ArenaLemmas.{set_here}
use Rattle.hq_rules_overlap.proofs.Empties.{done_without_right}
use Rattle.hq_rules_overlap.proofs.walk.Walk.finish_left.Goals as goal

pub finish_sets-requires-clause-theirs : goal.finish_sets-requires-clause-theirs
finish_sets-requires-clause-theirs c = set_here c.args.arena.now c.args.right c.in-Some.theirs.now (sym c.in-Some.ensures)

pub returns-in_default-clause-done : goal.returns-in_default-clause-done
returns-in_default-clause-done c = done_without_right c.args.arena.now c.args.self.now c.args.left c.args.right (sym c.in_default.ensures)
