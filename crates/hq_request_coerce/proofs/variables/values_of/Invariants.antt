use Rattle.std.proofs.Common.{◌≡◌, ◌++◌, map, drop}
use Rattle.hq_base.specs.Due.{mapped}
use Rattle.hq_schema.specs.Schema.{schema_view}
use Rattle.hq_gql_tree.specs.Documents.{var_def_view}
use Rattle.hq_gql_nodes.specs.Names.{has_name}
use Rattle.hq_request_coerce.specs.Due.{values_due}
use Rattle.hq_request_coerce.specs.Given.{given_seen}
use Rattle.hq_request_coerce.specs.Variables.{var_view}
use Rattle.hq_request_coerce.proofs.variables.values_of.Given as goal

-- the values so far, and then those of the rest
abbrev pub invariant-loop-at : goal.invariant-loop-at
invariant-loop-at l =
    let due = values_due (schema_view l.schema) (has_name l.required) (map given_seen l.given) in
    due (map var_def_view l.vars) ≡ mapped (λ rest. map var_view l.values.items ++ rest) (due (map var_def_view (drop l.at l.vars)))
