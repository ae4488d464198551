use Rattle.std.proofs.Common.{◌≡◌, map, drop}
use Rattle.hq_rules_reach.specs.Uses.{number_view}
use Rattle.hq_gql_nodes.specs.Least.{earlier, least_of}
use Rattle.hq_schema.specs.Schema.{schema_view}
use Rattle.hq_gql_tree.specs.Documents.{var_def_view}
use Rattle.hq_rules_reach.specs.Variables.{numbered_place, wrong_use}
use Rattle.hq_rules_reach.proofs.variables_in_allowed_position.least_wrong.Given as goal

-- the lesser of the least so far and that of what is left is the least
abbrev pub invariant-loop-found : goal.invariant-loop-found
invariant-loop-found l =
    earlier l.least
    (least_of (wrong_use (schema_view l.schema) (map var_def_view l.vars) (numbered_place l.places))
    (map number_view (drop l.found-index l.uses)))
    ≡ least_of (wrong_use (schema_view l.schema) (map var_def_view l.vars) (numbered_place l.places)) (map number_view l.uses)
