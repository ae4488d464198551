use Rattle.std.proofs.Common.{◌≡◌, map, take}
use Rattle.std.specs.List.{filter_map}
use Rattle.hq_gql_tree.specs.Documents.{definition_view}
use Rattle.hq_gql_nodes.specs.Names.{name_view}
use Rattle.hq_rules_doc.specs.Operations.{fragment_name}
use Rattle.hq_rules_doc.proofs.rules.unique_fragment_names.fragment_names.Given as goal

-- the names so far
abbrev pub invariant-loop-definition : goal.invariant-loop-definition
invariant-loop-definition l = map name_view l.names.items ≡ filter_map fragment_name (map definition_view (take l.definition-index l.definition-items))
