-- The group is done, and its sets are marked.
use Rattle.std.proofs.Common.{rules, sym, subst}
use Rattle.hq_overlap_sets.specs.Sets.{arena_view}
use Rattle.hq_overlap_sets.specs.Together.{AreConflicts}
use Rattle.hq_rules_overlap.proofs.Explored.{marked_explored}
use Rattle.hq_rules_overlap.proofs.groups.Groups.explore_group.Goals as goal

pub returns-then-not-going-clause-best : goal.returns-then-not-going-clause-best
returns-then-not-going-clause-best c = c.in_ok-going.ensures.best

pub returns-clause-best : goal.returns-clause-best
returns-clause-best c = subst (λ f. AreConflicts (arena_view c.args.arena.now) f.best) (sym c.mark_group.ensures.found) c.in_ok-going.ensures.best

pub returns-clause-explored : goal.returns-clause-explored
returns-clause-explored c = λ _.
    marked_explored (arena_view c.args.arena.now) c.args.self.now c.look_at.new.self c.mark_group.new.self c.args.list.now c.args.group.now c.requires.has
    (c.in_ok-going.ensures.looked (search rules)) c.mark_group.ensures.lists c.mark_group.ensures.found c.mark_group.ensures.marks
