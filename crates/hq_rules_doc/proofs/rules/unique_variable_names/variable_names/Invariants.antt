use Rattle.std.proofs.Common.{◌≡◌, map, take}
use Rattle.hq_gql_tree.specs.Documents.{var_def_view}
use Rattle.hq_gql_nodes.specs.Names.{name_view}
use Rattle.hq_rules_doc.specs.Operations.{variable_name}
use Rattle.hq_rules_doc.proofs.rules.unique_variable_names.variable_names.Given as goal

-- the names so far
abbrev pub invariant-loop-var_def : goal.invariant-loop-var_def
invariant-loop-var_def l = map name_view l.names.items ≡ map variable_name (map var_def_view (take l.var_def-index l.vars))
