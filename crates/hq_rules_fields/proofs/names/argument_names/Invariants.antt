use Rattle.std.proofs.Common.{◌≡◌, map, take}
use Rattle.hq_gql_tree.specs.Values.{argument_view}
use Rattle.hq_gql_nodes.specs.Names.{name_view}
use Rattle.hq_rules_fields.specs.NodeRules.{argument_name}
use Rattle.hq_rules_fields.proofs.names.argument_names.Given as goal

-- the names so far
abbrev pub invariant-loop-argument : goal.invariant-loop-argument
invariant-loop-argument l = map name_view l.names.items ≡ map argument_name (map argument_view (take l.argument-index l.arguments))
