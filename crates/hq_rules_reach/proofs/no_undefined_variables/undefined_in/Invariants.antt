use Rattle.std.proofs.Common.{◌≡◌, drop}
use Rattle.hq_gql_nodes.specs.Least.{earlier, least_of}
use Rattle.hq_rules_reach.specs.Uses.{numbers_view, uses_at}
use Rattle.hq_rules_reach.specs.Variables.{numbered_place, undefined_use}
use Rattle.hq_rules_reach.proofs.no_undefined_variables.undefined_in.Given as goal

-- the lesser of the least so far and that of the definitions that are left is the least
abbrev pub invariant-loop-at : goal.invariant-loop-at
invariant-loop-at l =
    earlier l.least (least_of (λ j. least_of (undefined_use (numbered_place l.places)) (uses_at (numbers_view l.all) j)) (drop l.at-index l.definitions))
    ≡ earlier l.initial.least (least_of (λ j. least_of (undefined_use (numbered_place l.places)) (uses_at (numbers_view l.all) j)) l.definitions)
