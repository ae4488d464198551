use Rattle.std.proofs.Common.{◌≡◌, map, take}
use Rattle.hq_gql_tree.specs.Documents.{definition_view}
use Rattle.hq_gql_nodes.specs.Names.{get_name}
use Rattle.hq_gql_nodes.specs.Reach.{graph_view}
use Rattle.hq_rules_doc.specs.Subscriptions.{root_graph}
use Rattle.hq_rules_doc.proofs.rules.single_field_subscriptions.root_graph.Given as goal

-- the rows of the definitions so far
abbrev pub invariant-loop-definition : goal.invariant-loop-definition
invariant-loop-definition l = graph_view l.graph.items ≡ root_graph (get_name l.places) (map definition_view (take l.definition-index l.definition-items))
