use Rattle.std.proofs.Common.{◌≡◌, map, drop}
use Rattle.hq_schema.specs.Schema.{schema_view}
use Rattle.hq_gql_nodes.specs.Least.{earlier}
use Rattle.hq_gql_nodes.specs.Nodes.{part_view}
use Rattle.hq_rules_fields.specs.NodeRules.{rule_place}
use Rattle.hq_rules_fields.proofs.rules.NodeRule.place.Given as goal

-- the lesser of the least so far and that of the parts that are left is the least
abbrev pub invariant-loop-part : goal.invariant-loop-part
invariant-loop-part l =
    earlier l.least (rule_place l.self (schema_view l.schema) (map part_view (drop l.part-index l.parts)))
    ≡ rule_place l.self (schema_view l.schema) (map part_view l.parts)
