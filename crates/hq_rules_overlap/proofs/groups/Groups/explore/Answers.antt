-- The places of sets count for nothing.
use Rattle.std.proofs.Common.{List, ℕ, refl, sym, subst}
use Rattle.std.proofs.lemmas.Result.{IfOk-weaker}
use Rattle.hq_overlap_sets.specs.Sets.{arena_view}
use Rattle.hq_rules_overlap.specs.Groups.{HasAll, IsClosed}
use Rattle.hq_rules_overlap.proofs.Explored.{explored_from}
use Rattle.hq_rules_overlap.proofs.groups.Groups.explore.Goals as goal

pub explore_group-requires-clause-sound : goal.explore_group-requires-clause-sound
explore_group-requires-clause-sound c = record { best = c.requires.sound.best; together = c.requires.sound.together; covered = c.requires.sound.covered }

pub explore_group-requires-clause-has : goal.explore_group-requires-clause-has
explore_group-requires-clause-has c = subst (λ (group : List ℕ). HasAll group c.args.list.now) (sym c.deref.ensures.value) c.in_ok-group.ensures.has

pub explore_group-requires-clause-closed : goal.explore_group-requires-clause-closed
explore_group-requires-clause-closed c = subst (IsClosed (arena_view c.args.arena.now)) (sym c.deref.ensures.value) c.in_ok-group.ensures.closed

pub returns-clause-explored : goal.returns-clause-explored
returns-clause-explored c =
    IfOk-weaker c.explore_group.result _ _
    (λ going explored held. explored_from (arena_view c.args.arena.now) c.args.self.now _ c.explore_group.new.self c.args.list.now refl refl (explored held)) c.explore_group.ensures.explored
