use Rattle.std.proofs.Common.{◌≡◌, map, drop}
use Rattle.hq_gql_tree.specs.Documents.{definition_view}
use Rattle.hq_gql_nodes.specs.Least.{earlier, least_of}
use Rattle.hq_rules_doc.specs.Operations.{repeated_variable}
use Rattle.hq_rules_doc.proofs.rules.unique_variable_names.unique_variable_names.Given as goal

-- the lesser of the least so far and that of what is left is the least
abbrev pub invariant-loop-definition : goal.invariant-loop-definition
invariant-loop-definition l =
    earlier l.least (least_of repeated_variable (map definition_view (drop l.definition-index l.definition-items)))
    ≡ least_of repeated_variable (map definition_view l.definition-items)
