-- The left set, if there is one.
use Rattle.std.proofs.Common.{sym}
use Rattle.hq_overlap_sets.proofs.ArenaLemmas.{set_here}
use Rattle.hq_rules_overlap.proofs.Empties.{done_without_left}
use Rattle.hq_rules_overlap.proofs.walk.Walk.finish.Goals as goal

pub finish_left-requires-clause-ours : goal.finish_left-requires-clause-ours
finish_left-requires-clause-ours c = set_here c.args.arena.now c.args.left c.in-Some.ours.now (sym c.in-Some.ensures)

pub returns-in_default-clause-done : goal.returns-in_default-clause-done
returns-in_default-clause-done c = done_without_left c.args.arena.now c.args.self.now c.args.left c.args.right (sym c.in_default.ensures)
