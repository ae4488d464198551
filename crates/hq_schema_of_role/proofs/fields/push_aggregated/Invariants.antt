use Rattle.std.proofs.Common.{◌≡◌, ◌+◌, ◌++◌, map, drop}
use Rattle.hq_schema.specs.Schema.{field_view}
use Rattle.hq_schema_of_role.specs.Fields.{aggregated_fields}
use Rattle.hq_schema_of_role.proofs.fields.push_aggregated.Given as goal

abbrev pub invariant-loop-behind : goal.invariant-loop-behind
invariant-loop-behind l =
    map field_view l.fields.items ++ aggregated_fields (l.first + 6 + l.behind) (drop l.behind l.aggregates)
    ≡ map field_view l.initial.fields.items ++ aggregated_fields (l.first + 6) l.aggregates
