use Rattle.std.proofs.Common.{◌≡◌, map, drop}
use Rattle.hq_schema.specs.Schema.{schema_view}
use Rattle.hq_gql_nodes.specs.Least.{earlier, least_of}
use Rattle.hq_gql_nodes.specs.Nodes.{node_view}
use Rattle.hq_rules_fields.specs.NodeRules.{node_place}
use Rattle.hq_rules_fields.proofs.rules.least_in.Given as goal

-- the lesser of the least so far and that of the nodes that are left is the least
abbrev pub invariant-loop-node : goal.invariant-loop-node
invariant-loop-node l =
    earlier l.least (least_of (node_place l.rule (schema_view l.schema)) (map node_view (drop l.node-index l.nodes)))
    ≡ least_of (node_place l.rule (schema_view l.schema)) (map node_view l.nodes)
