use Rattle.std.proofs.Common.{◌≡◌, map, take}
use Rattle.hq_gql_tree.specs.Values.{directive_view}
use Rattle.hq_gql_nodes.specs.Names.{name_view}
use Rattle.hq_rules_doc.specs.NodeRules.{directive_name}
use Rattle.hq_rules_doc.proofs.rules.unique_directives.directive_names.Given as goal

-- the names so far
abbrev pub invariant-loop-directive : goal.invariant-loop-directive
invariant-loop-directive l = map name_view l.names.items ≡ map directive_name (map directive_view (take l.directive-index l.directives))
