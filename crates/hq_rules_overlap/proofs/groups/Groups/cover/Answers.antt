-- A set that is passed over, one that is marked, one without fields and spreads, and another one.
use Rattle.std.proofs.Common.{◌∙◌, ap, sym, List, Bool}
use Rattle.std.proofs.lemmas.Bool.{both_ways}
use Rattle.hq_overlap_sets.specs.Sets.{arena_view}
use Rattle.hq_rules_overlap.specs.Exploring.{is_marked, lists_of}
use Rattle.hq_rules_overlap.proofs.Explored.{goes_still, empty_covered}
use Rattle.hq_rules_overlap.proofs.groups.Groups.cover.Goals as goal

pub returns-then-is_marked-clause-best : goal.returns-then-is_marked-clause-best
returns-then-is_marked-clause-best c = c.requires.end.sound.best

pub returns-then-is_marked-clause-goes : goal.returns-then-is_marked-clause-goes
returns-then-is_marked-clause-goes c = λ _. goes_still c.args.self.now

pub returns-then-is_marked-clause-end : goal.returns-then-is_marked-clause-end
returns-then-is_marked-clause-end c = λ _. c.requires.end

pub returns-then-is_marked-clause-covered : goal.returns-then-is_marked-clause-covered
returns-then-is_marked-clause-covered c = λ _ not_marked. absurd (both_ways (is_marked c.args.passed.now c.args.set) not_marked (sym c.is_marked.ensures ∙ c.if-is_marked.true))

pub returns-then-is_marked-2-clause-best : goal.returns-then-is_marked-2-clause-best
returns-then-is_marked-2-clause-best c = c.requires.end.sound.best

pub returns-then-is_marked-2-clause-goes : goal.returns-then-is_marked-2-clause-goes
returns-then-is_marked-2-clause-goes c = λ _. goes_still c.args.self.now

pub returns-then-is_marked-2-clause-end : goal.returns-then-is_marked-2-clause-end
returns-then-is_marked-2-clause-end c = λ _. c.requires.end

pub returns-then-is_marked-2-clause-covered : goal.returns-then-is_marked-2-clause-covered
returns-then-is_marked-2-clause-covered c = λ _ _.
    c.requires.end.sound.covered c.args.set
    (sym (c.is_marked-2.ensures ∙ ap (λ (ms : List Bool). is_marked ms c.args.set) c.deref.ensures.value) ∙ c.if-is_marked-2.true)

pub returns-then-is_empty-clause-best : goal.returns-then-is_empty-clause-best
returns-then-is_empty-clause-best c = c.requires.end.sound.best

pub returns-then-is_empty-clause-goes : goal.returns-then-is_empty-clause-goes
returns-then-is_empty-clause-goes c = λ _. goes_still c.args.self.now

pub returns-then-is_empty-clause-end : goal.returns-then-is_empty-clause-end
returns-then-is_empty-clause-end c = λ _. c.requires.end

pub returns-then-is_empty-clause-covered : goal.returns-then-is_empty-clause-covered
returns-then-is_empty-clause-covered c = λ _ _.
    empty_covered (arena_view c.args.arena.now) (lists_of c.args.self.now) c.args.self.now.found.least c.args.set (c.is_empty.ensures c.if-is_empty.true)
