use Rattle.std.proofs.Common.{◌≡◌, map, drop}
use Rattle.hq_gql_nodes.specs.Least.{earlier, least_of}
use Rattle.hq_rules_reach.specs.Uses.{numbers_view, uses_at}
use Rattle.hq_schema.specs.Schema.{schema_view}
use Rattle.hq_gql_tree.specs.Documents.{var_def_view}
use Rattle.hq_rules_reach.specs.Variables.{numbered_place, wrong_use}
use Rattle.hq_rules_reach.proofs.variables_in_allowed_position.wrong_in.Given as goal

-- the lesser of the least so far and that of the definitions that are left is the least
abbrev pub invariant-loop-at : goal.invariant-loop-at
invariant-loop-at l =
    earlier l.least (least_of (λ j. least_of (wrong_use (schema_view l.schema) (map var_def_view l.vars) (numbered_place l.places)) (uses_at (numbers_view l.all) j)) (drop l.at-index l.definitions))
    ≡ least_of (λ j. least_of (wrong_use (schema_view l.schema) (map var_def_view l.vars) (numbered_place l.places)) (uses_at (numbers_view l.all) j)) l.definitions
