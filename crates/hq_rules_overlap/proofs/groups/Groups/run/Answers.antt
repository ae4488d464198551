-- One more list is explored, and all of them.
use Rattle.std.proofs.Common.{rules, ◌∙◌, ap, sym, subst, ℕ}
use Rattle.std.specs.Prelude.{option_map, Vec}
use Rattle.std.specs.declared.alloc.Global.{Global}
use Rattle.hq_overlap_sets.specs.Sets.{arena_view}
use Rattle.hq_rules_overlap.specs.Exploring.{lists_of, Explored}
use Rattle.hq_rules_overlap.specs.Groups.{AreTogether}
use Rattle.hq_rules_overlap.proofs.Explored.{goes_still, goes_then, one_explored, one_inside, got_together, at_end}
use Rattle.hq_rules_overlap.proofs.groups.Groups.run.Goals as goal

pub loop-at-init : goal.loop-at-init
loop-at-init c = record { sound = c.requires.sound; goes = goes_still c.args.self.now; explored = c.requires.explored; inside = c.requires.inside }

pub explore-requires-clause-sound : goal.explore-requires-clause-sound
explore-requires-clause-sound c = c.loop-at.invariant.sound

pub explore-requires-clause-list : goal.explore-requires-clause-list
explore-requires-clause-list c =
    let sets = arena_view c.args.arena.now in
    let at = sym c.in_ok-found.ensures ∙ ap (option_map (λ (v : Vec ℕ Global). v.items)) c.in-Some.is in
    subst (AreTogether sets) (sym c.deref.ensures.value) (got_together sets (lists_of c.loop-at.self) c.loop-at.at c.in-Some.list.items at c.loop-at.invariant.sound.together)

pub loop-at-preserved : goal.loop-at-preserved
loop-at-preserved c =
    let sets = arena_view c.args.arena.now in
    let old = c.loop-at.self in
    let new = c.explore.new.self in
    let list = c.in-Some.list.items in
    let at = sym c.in_ok-found.ensures ∙ ap (option_map (λ (v : Vec ℕ Global). v.items)) c.in-Some.is in
    let x = subst (Explored sets old new) c.deref.ensures.value (c.in_ok-going.ensures.explored (search rules)) in
    record {
      sound = x.sound;
      goes = goes_then c.args.self.now old new c.loop-at.invariant.goes x.goes;
      explored = one_explored sets (lists_of old) (lists_of new) old.found.least new.found.least x.goes.lists x.goes.lower c.loop-at.at list at c.loop-at.invariant.explored x.explored;
      inside = one_inside (lists_of old) (lists_of new) c.loop-at.at list at x.goes.lists;
    }

pub returns-in_default-clause-best : goal.returns-in_default-clause-best
returns-in_default-clause-best c = c.loop-at.invariant.sound.best

pub returns-in_default-clause-goes : goal.returns-in_default-clause-goes
returns-in_default-clause-goes c = λ _. record { lists = c.loop-at.invariant.goes.lists; lower = c.loop-at.invariant.goes.lower }

pub returns-in_default-clause-end : goal.returns-in_default-clause-end
returns-in_default-clause-end c = λ _.
    at_end (arena_view c.args.arena.now) c.loop-at.self c.loop-at.at c.loop-at.invariant.sound c.loop-at.invariant.explored
    c.loop-at.invariant.inside (sym c.in_ok-found.ensures ∙ ap (option_map (λ (v : Vec ℕ Global). v.items)) c.in_default.is)

pub returns-then-not-going-clause-best : goal.returns-then-not-going-clause-best
returns-then-not-going-clause-best c = c.in_ok-going.ensures.best

pub returns-clause-best : goal.returns-clause-best
returns-clause-best c = c.loop-at.invariant.sound.best
