-- The second time no set is passed over.
use Rattle.std.proofs.Common.{rules, refl}
use Rattle.hq_rules_overlap.proofs.groups.Groups.search.Goals as goal

pub cover_all-requires-2 : goal.cover_all-requires-2
cover_all-requires-2 c = c.in_ok-going.ensures.end (search rules)

pub returns-then-not-going : goal.returns-then-not-going
returns-then-not-going c = c.in_ok-going.ensures.best

pub returns-then-not-going-2 : goal.returns-then-not-going-2
returns-then-not-going-2 c = c.in_ok-going-2.ensures.best

pub told-requires-clause-end : goal.told-requires-clause-end
told-requires-clause-end c = c.in_ok-going-2.ensures.end (search rules)

pub told-requires-clause-covered : goal.told-requires-clause-covered
told-requires-clause-covered c = λ s h. c.in_ok-going-2.ensures.covered (search rules) s h refl
