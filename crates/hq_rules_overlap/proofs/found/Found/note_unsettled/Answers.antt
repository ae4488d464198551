-- What was counted stays so while conflicts are added.
use Rattle.std.proofs.Common.{◌∙◌, sym, subst}
use Rattle.std.proofs.lemmas.Result.{on_ok_weaker}
use Rattle.hq_overlap_sets.specs.Sets.{arena_view}
use Rattle.hq_overlap_sets.specs.Together.{AreConflicts}
use Rattle.hq_rules_overlap.proofs.found.Found.note_unsettled.Goals as goal

pub add_conflict-requires-clause-best : goal.add_conflict-requires-clause-best
add_conflict-requires-clause-best c = subst (AreConflicts (arena_view c.args.arena.now)) (sym c.count.ensures.best) c.requires.best

pub returns-clause-least : goal.returns-clause-least
returns-clause-least c = on_ok_weaker c.add_conflict-2.result (λ e. e ∙ (c.in_ok-add_conflict.ensures.least ∙ c.count.ensures.least)) c.add_conflict-2.ensures.least
