-- A field behind a conflict that is known, one that agrees, and one that does not.
use Rattle.std.proofs.Common.{sym, subst, inl, inr}
use Rattle.std.proofs.lemmas.Result.{on_ok_weaker}
use Rattle.hq_overlap_sets.specs.Sets.{arena_view}
use Rattle.hq_overlap_sets.specs.Together.{AreConflicts}
use Rattle.hq_rules_overlap.proofs.Places.{counted_low, still_low}
use Rattle.hq_rules_overlap.proofs.found.Found.note.Goals as goal

pub returns-then-is_at_most-clause-lower : goal.returns-then-is_at_most-clause-lower
returns-then-is_at_most-clause-lower c = λ n h. still_low c.args.self.now.least c.count.new.self.least c.args.entry.now.field.now.at n c.count.ensures.least h

pub returns-then-is_at_most-clause-noted : goal.returns-then-is_at_most-clause-noted
returns-then-is_at_most-clause-noted c = inr (counted_low c.args.self.now.least c.count.new.self.least c.args.entry.now.field.now.at c.count.ensures.least)

pub returns-then-is_at_most-clause-best : goal.returns-then-is_at_most-clause-best
returns-then-is_at_most-clause-best c = subst (AreConflicts (arena_view c.args.arena.now)) (sym c.count.ensures.best) c.requires.best

pub returns-then-settled-clause-noted : goal.returns-then-settled-clause-noted
returns-then-settled-clause-noted c = inl (c.in_ok-settled.ensures c.if-settled.true)

pub returns-clause-lower : goal.returns-clause-lower
returns-clause-lower c =
    on_ok_weaker c.note_unsettled.result (λ e n h. still_low c.args.self.now.least c.note_unsettled.new.self.least c.args.entry.now.field.now.at n e h) c.note_unsettled.ensures.least

pub returns-clause-noted : goal.returns-clause-noted
returns-clause-noted c =
    on_ok_weaker c.note_unsettled.result (λ e. inr (counted_low c.args.self.now.least c.note_unsettled.new.self.least c.args.entry.now.field.now.at e)) c.note_unsettled.ensures.least
