-- The list that a group begins with.
use Rattle.std.proofs.Common.{List, ℕ, sym, subst}
use Rattle.hq_overlap_sets.specs.Sets.{arena_view}
use Rattle.hq_rules_overlap.specs.Groups.{HasAll, AreTogether}
use Rattle.hq_rules_overlap.proofs.closure.closure.Goals as goal

pub close-requires : goal.close-requires
close-requires c = subst (AreTogether (arena_view c.args.arena.now)) (sym c.in_ok-group.ensures.items) c.requires

pub returns-clause-has : goal.returns-clause-has
returns-clause-has c = subst (λ (xs : List ℕ). HasAll c.close.new.group.items xs) c.in_ok-group.ensures.items c.in_ok-close.ensures.has
